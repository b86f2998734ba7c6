use Rattle.std.proofs.Common.{refl, ◌∙◌, arith}
use Rattle.book.specs.Reading.{program_of}
use Rattle.book.proofs.Holding.{valid_book}
use Rattle.inquiry.specs.View.{cursor_of}
use Rattle.inquiry.proofs.Shapes.{still}
use Rattle.inquiry.proofs.Running.{gone_more, gone_shaped, run_found, run_over, run_paused}
use Rattle.inquiry.proofs.walk.Walk.run.Goals as goal

pub loop-steps-init : goal.loop-steps-init
loop-steps-init g c = record { same = refl; gone = still; shape = c.requires }

pub loop-steps-preserved : goal.loop-steps-preserved
loop-steps-preserved g c = record {
  same = c.step.ensures.same ∙ c.loop-steps.invariant.same;
  gone = gone_more (g.O.Operator.meaning c.args.operator.now) (program_of c.args.book.now) (cursor_of (program_of c.args.book.now).atoms c.args.cursor.now) c.args.self.now c.loop-steps.self c.loop-steps.steps c.loop-steps.invariant.gone (g.O.Operator.meaning c.loop-steps.operator) c.loop-steps.invariant.same c.in-Some.depth c.step.new.self c.in-Some.is c.if-step.ensures.step;
  shape = gone_shaped (g.O.Operator.meaning c.loop-steps.operator) (program_of c.args.book.now) _ c.loop-steps.self c.step.new.self c.in-Some.depth (valid_book c.args.book.now) (g.met.O.Operator.lawful c.loop-steps.operator) c.in-Some.is c.if-step.ensures.step c.loop-steps.invariant.shape;
}

pub returns-then-step-clause-run : goal.returns-then-step-clause-run
returns-then-step-clause-run g c = run_found (g.O.Operator.meaning c.args.operator.now) (program_of c.args.book.now) (cursor_of (program_of c.args.book.now).atoms c.args.cursor.now) c.args.self.now c.loop-steps.self c.loop-steps.steps c.loop-steps.invariant.gone (g.O.Operator.meaning c.loop-steps.operator) c.loop-steps.invariant.same c.in-Some.depth c.step.new.self c.in-Some.is c.args.allowance c.if-step.ensures.step c.loop-steps-test.true

pub returns-in_default-clause-run : goal.returns-in_default-clause-run
returns-in_default-clause-run g c = run_over (g.O.Operator.meaning c.args.operator.now) (program_of c.args.book.now) (cursor_of (program_of c.args.book.now).atoms c.args.cursor.now) c.args.self.now c.loop-steps.self c.loop-steps.steps c.loop-steps.invariant.gone c.args.allowance c.loop-steps.steps c.in_default.is (omega arith) refl

pub returns-in-None-clause-run : goal.returns-in-None-clause-run
returns-in-None-clause-run g c = run_over (g.O.Operator.meaning c.args.operator.now) (program_of c.args.book.now) (cursor_of (program_of c.args.book.now).atoms c.args.cursor.now) c.args.self.now c.loop-steps.self c.loop-steps.steps c.loop-steps.invariant.gone c.args.allowance c.args.allowance c.in-None.is (omega arith) (omega arith)

pub returns-in-Some-depth-clause-run : goal.returns-in-Some-depth-clause-run
returns-in-Some-depth-clause-run g c = run_paused (g.O.Operator.meaning c.args.operator.now) (program_of c.args.book.now) (cursor_of (program_of c.args.book.now).atoms c.args.cursor.now) c.args.self.now c.loop-steps.self c.loop-steps.steps c.loop-steps.invariant.gone c.in-Some-depth.field-0 c.args.allowance c.in-Some-depth.is (omega arith)
