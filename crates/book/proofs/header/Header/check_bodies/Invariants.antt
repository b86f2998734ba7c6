use Rattle.std.proofs.Common.{◌≡◌, None}
use Rattle.book.specs.First.{first}
use Rattle.book.specs.Diagnosis.{bodies_fault, literal_fault}
use Rattle.book.proofs.header.Header.check_bodies.Given as goal

abbrev pub invariant-loop-k : goal.invariant-loop-k
invariant-loop-k l = bodies_fault l.self.bytes.now l.k ≡ None

abbrev pub invariant-loop-i : goal.invariant-loop-i
invariant-loop-i l = first (literal_fault l.self.bytes.now l.k) l.i ≡ None
