use Rattle.std.proofs.Common.{refl}
use Rattle.std.proofs.lemmas.Result.{err_from_is_err_and}
use Rattle.book.specs.Program.{Program}
use Rattle.book.specs.Reading.{program_of}
use Rattle.inquiry.specs.declared.inquiry.Inquiry.{Inquiry}
use Rattle.inquiry.specs.declared.state.State.{State}
use Rattle.inquiry.specs.Calls.{wish, done}
use Rattle.inquiry.specs.View.{view}
use Rattle.inquiry.proofs.Calling.{past_more, answered, refused, wish_responds}
use Rattle.inquiry.proofs.inquiry.Inquiry.wish.Goals as goal

pub returns-in_err-check_wish-clause-answered : goal.returns-in_err-check_wish-clause-answered
returns-in_err-check_wish-clause-answered c =
    let p = err_from_is_err_and c.from_residual.result c.from_residual.ensures.1 in
    rw (p.1, p.2) (refused c.args.self.now (wish c.args.atom c.args.value) _ c.atoms.result tt c.atoms.ensures.atoms c.in_err-check_wish.ensures)

pub invariant_of-self : goal.invariant_of-self
invariant_of-self c =
    let x : Inquiry = c.args.self.now in
    let b : Program = program_of x.book in
    let t : State = c.restart.new.self in
    record { past = past_more b (view b x.state) (view b t) (wish c.args.atom c.args.value) done tt (wish_responds b x.state t _ c.atoms.ensures.atoms c.args.atom c.args.value c.in_ok-check_wish.ensures c.restart.ensures) x.past }

pub returns-clause-answered : goal.returns-clause-answered
returns-clause-answered c =
    let x : Inquiry = c.args.self.now in
    answered _ _ (wish c.args.atom c.args.value) done refl tt (wish_responds (program_of x.book) x.state c.restart.new.self _ c.atoms.ensures.atoms c.args.atom c.args.value c.in_ok-check_wish.ensures c.restart.ensures)
