use Rattle.std.proofs.Common.{ℕ, Bool, List, sym, subst}
use Rattle.book.specs.Program.{Program}
use Rattle.book.specs.Reading.{program_of}
use Rattle.answer.specs.Answer.{Least}
use Rattle.answer.specs.Flags.{flagged}
use Rattle.answer.specs.Rounds.{Inner}
use Rattle.answer.proofs.Rounds.{inner_none, least_flags}
use Rattle.answer.proofs.least.close.Goals as goal

pub loop-init : goal.loop-init
loop-init c =
    let p : Program = program_of c.args.book.now in
    let u : ℕ → Bool = flagged c.args.used.now in
    subst (Inner p u) (sym c.requires) (inner_none p u 128)

pub loop-preserved : goal.loop-preserved
loop-preserved c = c.loop-test.ensures.1 c.loop.invariant

pub returns : goal.returns
returns c =
    let p : Program = program_of c.args.book.now in
    let u : ℕ → Bool = flagged c.args.used.now in
    let rest = c.loop-test.ensures in
    subst (λ (xs : List Bool). Least p u (flagged xs)) (sym rest.0) (least_flags p u c.loop.flags rest.1 c.loop.invariant)
