use Rattle.book.specs.Reading.{program_of}
use Rattle.book.specs.Handing.{AtRule}
use Rattle.answer.specs.Flags.{flagged}
use Rattle.answer.specs.Rounds.{Went}
use Rattle.answer.proofs.least.round.Given as goal

abbrev pub invariant-loop-k : goal.invariant-loop-k
invariant-loop-k l = record {
  at : AtRule l.book l.rule-iterator l.k;
  went : Went (program_of l.book) (flagged l.used) l.k l.initial.flags l.joined l.flags;
}
