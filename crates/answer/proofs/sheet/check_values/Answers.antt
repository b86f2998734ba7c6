use Rattle.std.proofs.Common.{◌≡◌, ℕ, length, None, sym, subst, arith}
use Rattle.std.proofs.lemmas.Result.{err_from_is_err_and}
use Rattle.answer.specs.Fault.{values_fault}
use Rattle.answer.proofs.Values.{found_at, all_low}
use Rattle.answer.proofs.sheet.check_values.Goals as goal

pub returns-in_err-check_value : goal.returns-in_err-check_value
returns-in_err-check_value c =
    let s = c.args.bytes.now in
    let p = err_from_is_err_and c.from_residual.result c.from_residual.ensures.1 in
    let found = found_at c.args.most s c.loop-i.i (length s) _ c.loop-i-test.true c.loop-i.invariant c.in_err-check_value.ensures in
    record { declines = rw (p.1, p.2) found; small = rw p.1 tt }

pub returns : goal.returns
returns c =
    let s = c.args.bytes.now in
    let e : c.loop-i.i ≡ length c.args.bytes.now = omega arith in
    let none = subst (λ (n : ℕ). values_fault c.args.most s n ≡ None) e c.loop-i.invariant in
    record { declines = sym none; small = all_low c.args.most s none }
