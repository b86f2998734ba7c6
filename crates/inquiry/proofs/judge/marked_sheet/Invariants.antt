use Rattle.std.proofs.Common.{◌≡◌, ℕ, ◌<◌, length, get_or}
use Rattle.answer.specs.Tests.{bit}
use Rattle.operator.specs.Page.{is_in}
use Rattle.inquiry.proofs.judge.marked_sheet.Given as goal

abbrev pub invariant-loop-a : goal.invariant-loop-a
invariant-loop-a l = record { long : length l.sheet ≡ 128; written : (k : ℕ) → k < l.a → get_or l.sheet k 0 ≡ bit (is_in l.marks k) }
