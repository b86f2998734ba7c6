use Rattle.std.proofs.Common.{◌≡◌, ℕ, ◌+◌, ◌<◌, length, get_or}
use Rattle.inquiry.proofs.judge.is_behind_sheet.Given as goal

abbrev pub invariant-loop-mark : goal.invariant-loop-mark
invariant-loop-mark l = (i : ℕ) → i < length l.yielded → get_or l.marks i 0 ≡ get_or l.sheet i 0 + 1
