use Rattle.std.proofs.Common.{◌≡◌, ◌+◌, ◌*◌, ◌++◌, length, take}
use Rattle.book.specs.Format.{twos}
use Rattle.draft.specs.Rows.{bytes_by}
use Rattle.draft.specs.Filled.{filled}
use Rattle.draft.proofs.rows.Rows+2+N.push_atoms.Given as goal

abbrev pub invariant-loop-i : goal.invariant-loop-i
invariant-loop-i g l = record {
  len : l.self.len ≡ l.from;
  wide : length (bytes_by l.self.rows (l.from + l.i)) ≡ 2 * (l.from + l.i);
  bytes : bytes_by l.self.rows (l.from + l.i) ≡ filled l.initial.self ++ twos (take l.i l.atoms);
}
