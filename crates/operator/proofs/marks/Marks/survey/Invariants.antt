use Rattle.operator.specs.Marks.{marks_in}
use Rattle.operator.specs.Parts.{meeting, failing}
use Rattle.operator.proofs.Surveys.{Seen}
use Rattle.operator.proofs.marks.Marks.survey.Given as goal

abbrev pub invariant-loop-atom : goal.invariant-loop-atom
invariant-loop-atom l = Seen (marks_in l.self) (meeting l.sign) (failing l.sign) l.yielded l.state
