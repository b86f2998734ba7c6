use Rattle.std.proofs.Common.{◌≡◌, None}
use Rattle.answer.specs.Fault.{values_fault}
use Rattle.answer.proofs.sheet.check_values.Given as goal

abbrev pub invariant-loop-i : goal.invariant-loop-i
invariant-loop-i l = values_fault l.most l.bytes l.i ≡ None
