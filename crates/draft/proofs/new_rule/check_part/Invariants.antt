use Rattle.std.proofs.Common.{◌≡◌, ◌-◌, cond, eqb, Some, None, get_or}
use Rattle.book.specs.First.{first}
use Rattle.draft.specs.Adding.{part_literal_fault}
use Rattle.draft.proofs.new_rule.check_part.Given as goal

abbrev pub invariant-loop-i : goal.invariant-loop-i
invariant-loop-i l = record {
  faultless : first (part_literal_fault l.atoms l.before l.part) l.i ≡ None;
  last : l.last ≡ cond (eqb l.i 0) None (Some (get_or l.part (l.i - 1) 0));
}
