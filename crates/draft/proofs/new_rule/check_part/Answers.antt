use Rattle.std.proofs.Common.{◌≡◌, Some, length, arith}
use Rattle.std.proofs.lemmas.Grind.{common_steps}
use Rattle.book.proofs.Firsts.{first_found}
use Rattle.draft.specs.Adding.{part_literal_fault}
use Rattle.draft.proofs.new_rule.check_part.Goals as goal

pub returns-in_err-check_literal : goal.returns-in_err-check_literal
returns-in_err-check_literal c =
    let f = part_literal_fault c.args.atoms c.args.before c.args.part.now in
    let e : f c.loop-i.i ≡ Some c.in_err-check_literal.field-0.0 = grind (arith, common_steps) in
    let g = first_found f _ c.loop-i.i (length c.args.part.now) c.loop-i-test.true c.loop-i.invariant.faultless e in
    grind (arith, common_steps)
