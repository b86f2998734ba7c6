use Rattle.std.proofs.Common.{◌≡◌}
use Rattle.book.specs.Reading.{program_of}
use Rattle.inquiry.specs.View.{cursor_of}
use Rattle.inquiry.specs.Turns.{InShape}
use Rattle.inquiry.proofs.Running.{Gone}
use Rattle.inquiry.proofs.walk.Walk.run.Given as goal

abbrev pub invariant-loop-steps : goal.invariant-loop-steps
invariant-loop-steps g l = record {
  same : g.O.Operator.meaning l.operator ≡ g.O.Operator.meaning l.initial.operator;
  gone : Gone (g.O.Operator.meaning l.initial.operator) (program_of l.book) (cursor_of (program_of l.book).atoms l.cursor) l.initial.self l.steps l.self;
  shape : InShape (program_of l.book) l.self;
}
