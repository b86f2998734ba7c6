use Rattle.book.specs.Handing.{AtRule}
use Rattle.operator.specs.Operator.{backward_to}
use Rattle.operator.specs.Marks.{program_under, marks_in}
use Rattle.operator.specs.Notes.{Noted}
use Rattle.operator.proofs.backward.BackwardPlainOperator.notes.Given as goal

abbrev pub invariant-loop-k : goal.invariant-loop-k
invariant-loop-k l = record {
  at : AtRule l.page.book.now l.rule-iterator l.k;
  noted : Noted (program_under l.page) l.k l.notes (backward_to l.k (program_under l.page) (marks_in l.page));
}
