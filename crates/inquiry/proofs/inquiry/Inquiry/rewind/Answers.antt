use Rattle.std.proofs.Common.{refl}
use Rattle.book.specs.Program.{Program}
use Rattle.book.specs.Reading.{program_of}
use Rattle.inquiry.specs.declared.inquiry.Inquiry.{Inquiry}
use Rattle.inquiry.specs.declared.state.State.{State}
use Rattle.inquiry.specs.Calls.{rewind, done}
use Rattle.inquiry.specs.View.{view}
use Rattle.inquiry.proofs.Calling.{past_more, answered, rewind_responds}
use Rattle.inquiry.proofs.inquiry.Inquiry.rewind.Goals as goal

pub invariant_of-self : goal.invariant_of-self
invariant_of-self c =
    let x : Inquiry = c.args.self.now in
    let b : Program = program_of x.book in
    let t : State = c.restart.new.self in
    record { past = past_more b (view b x.state) (view b t) rewind done tt (rewind_responds b x.state t c.restart.ensures) x.past }

pub returns : goal.returns
returns c = let x : Inquiry = c.args.self.now in answered _ _ rewind done refl tt (rewind_responds (program_of x.book) x.state c.restart.new.self c.restart.ensures)
