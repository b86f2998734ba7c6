use Rattle.std.proofs.Common.{◌≡◌, length}
use Rattle.book.specs.Reading.{program_of}
use Rattle.operator.specs.Notes.{tests}
use Rattle.operator.proofs.Finish.{Written}
use Rattle.operator.proofs.notes.Notes.finish.Given as goal

abbrev pub invariant-loop-i : goal.invariant-loop-i
invariant-loop-i l = record {
  written : Written (program_of l.book) l.mark-items (tests l.self) l.fresh l.i;
  long : length l.fresh ≡ 384;
}
