use Rattle.book.specs.Reading.{program_of}
use Rattle.answer.specs.Flags.{flagged}
use Rattle.answer.specs.Rounds.{Inner, absent}
use Rattle.answer.proofs.least.close.Given as goal

abbrev pub invariant-loop : goal.invariant-loop
invariant-loop l = Inner (program_of l.book) (flagged l.used) l.flags

abbrev pub decreases-loop : goal.decreases-loop
decreases-loop l = absent l.flags
