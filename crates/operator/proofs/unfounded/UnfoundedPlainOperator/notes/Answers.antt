use Rattle.std.proofs.Common.{◌≡◌, ℕ, Bool, not, List, ap, ◌∙◌, arith}
use Rattle.book.specs.Program.{Program, nth_rule}
use Rattle.book.proofs.Holding.{valid_book}
use Rattle.answer.specs.Answer.{inside}
use Rattle.answer.specs.Flags.{flagged}
use Rattle.answer.specs.Computed.{least_set}
use Rattle.operator.specs.Operator.{usable}
use Rattle.operator.specs.Marks.{program_under, marks_in}
use Rattle.answer.proofs.Rounds.{none_flagged}
use Rattle.operator.proofs.Outside.{least_flagged, outside_some}
use Rattle.operator.proofs.unfounded.UnfoundedPlainOperator.notes.Goals as goal

pub returns : goal.returns
returns c =
    let b : Program = program_under c.args.page.now in
    let p : List ℕ = marks_in c.args.page.now in
    let v = valid_book c.args.page.now.book.now in
    let few = v.limited.atoms in
    let fs : List Bool = c.least_atoms-inside.result in
    let same : (a : ℕ) → flagged fs a ≡ inside (least_set b (usable b p)) a =
    least_flagged b (usable b p) (flagged c.usable_rules.result) (flagged fs) v.proper c.usable_rules.ensures c.least_atoms-inside.ensures in
    record {
      atom_in = λ a l. none_flagged 128 a;
      atom_out = λ a l. c.outside_atoms.ensures a (omega arith) ∙ ap not (same a);
      body_in = λ r l. none_flagged 256 r;
      body_out = λ r l. c.outside_bodies.ensures r l ∙ outside_some (flagged fs) (least_set b (usable b p)) same (nth_rule b r).positives;
    }
