use Rattle.std.proofs.Common.{◌≡◌, ℕ, false, ◌||◌, eqb, get_or}
use Rattle.answer.specs.Tests.{some_of}
use Rattle.operator.proofs.backward.note_part.Given as goal

abbrev pub invariant-loop-atom : goal.invariant-loop-atom
invariant-loop-atom l = (a : ℕ) → get_or l.flags a false ≡ (some_of (eqb a) l.yielded || get_or l.initial.flags a false)
