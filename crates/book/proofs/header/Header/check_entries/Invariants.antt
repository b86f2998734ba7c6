use Rattle.std.proofs.Common.{◌≡◌, ◌+◌, ◌*◌, ◌≤◌, drop, None}
use Rattle.book.specs.Layout.{claimed_below}
use Rattle.book.specs.Diagnosis.{entries_fault}
use Rattle.book.proofs.header.Header.check_entries.Given as goal

abbrev pub invariant-loop-k : goal.invariant-loop-k
invariant-loop-k l =
    (l.contents ≡ drop (6 + 6 * l.k-counter) l.self.bytes.now)
    × (l.claimed ≡ claimed_below l.self.bytes.now l.k-counter)
    × (l.claimed ≤ l.self.literals)
    × (entries_fault l.self.bytes.now l.k-counter ≡ None)
