use Rattle.std.proofs.Common.{refl}
use Rattle.std.proofs.lemmas.Result.{err_from_is_err_and}
use Rattle.book.specs.Program.{Program}
use Rattle.book.specs.Reading.{program_of}
use Rattle.inquiry.specs.declared.inquiry.Inquiry.{Inquiry}
use Rattle.inquiry.specs.declared.state.State.{State}
use Rattle.inquiry.specs.Calls.{seek, done}
use Rattle.inquiry.specs.View.{view}
use Rattle.inquiry.proofs.Calling.{past_more, answered, refused, seek_responds}
use Rattle.inquiry.proofs.inquiry.Inquiry.seek.Goals as goal

pub returns-in_err-check_sheet-clause-answered : goal.returns-in_err-check_sheet-clause-answered
returns-in_err-check_sheet-clause-answered c =
    let p = err_from_is_err_and c.from_residual.result c.from_residual.ensures.1 in
    rw (p.1, p.2) (refused c.args.self.now (seek c.args.sheet.now) _ c.atoms-n.result tt c.atoms-n.ensures.atoms c.in_err-check_sheet.ensures.declines)

pub invariant_of-self : goal.invariant_of-self
invariant_of-self c =
    let x : Inquiry = c.args.self.now in
    let b : Program = program_of x.book in
    let t : State = c.restart.new.self in
    record { past = past_more b (view b x.state) (view b t) (seek c.args.sheet.now) done tt (seek_responds b x.state t _ c.atoms-n.ensures.atoms c.args.sheet.now _ _ c.in_ok-check_sheet.ensures.declines c.copy_from_slice.ensures.after c.restart.ensures) x.past }

pub returns-clause-answered : goal.returns-clause-answered
returns-clause-answered c =
    let x : Inquiry = c.args.self.now in
    answered _ _ (seek c.args.sheet.now) done refl tt (seek_responds (program_of x.book) x.state c.restart.new.self _ c.atoms-n.ensures.atoms c.args.sheet.now _ _ c.in_ok-check_sheet.ensures.declines c.copy_from_slice.ensures.after c.restart.ensures)
