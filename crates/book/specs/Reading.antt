-- What a book in use holds, and what bytes hold. Assumes nothing.
use Rattle.std.specs.Prelude.{◌≡◌, ℕ, List, Result, IfOk, MatchResult}
use Rattle.std.specs.Borrow.{Bor}
use Rattle.std.specs.Result.{result_err}
use Rattle.book.specs.declared.book.Book.{Book}
use Rattle.book.specs.declared.book.rules.Rule.{Rule}
use Rattle.book.specs.declared.faults.BookFault.{BookFault}
use Rattle.book.specs.Program.{ProgramRule, Program, Valid}
use Rattle.book.specs.Format.{encode}
use Rattle.book.specs.Layout.{words, decode}
use Rattle.book.specs.Diagnosis.{diagnose}

-- the bytes that a book in use was read from, and its program
abbrev pub held : Book → List ℕ
held b = b.bytes.now

abbrev pub program_of : Book → Program
program_of b = decode (held b)

-- a rule handed out, as a rule of a program
abbrev pub rule_of : Rule → ProgramRule
rule_of r = record { head = r.head; positives = words r.positives.now; negatives = words r.negatives.now }

-- the bytes are the written form of the program, which is valid
pub record Written (p : Program) (bs : List ℕ) : Type 0 where
  pub valid : Valid p
  pub form : encode p ≡ bs

-- the bytes are the written form of this program and of no other
pub record Holds (bs : List ℕ) (p : Program) : Type 0 where
  pub written : Written p bs
  pub only : (q : Program) → Written q bs → q ≡ p

-- the bytes are the written form of no program
abbrev pub HoldsNone : List ℕ → Type 0
HoldsNone bs = (p : Program) → Written p bs → ⊥

-- different programs have different written forms
abbrev pub DifferentForms : Type 0
DifferentForms = (p q : Program) → encode p ≡ encode q → p ≡ q

-- what reading bytes comes to: the first fault, or the book of these very bytes, whose program they are the written form of
pub record Reads (bytes : Bor (List ℕ)) (r : Result Book BookFault) : Type 0 where
  pub declines : result_err r ≡ diagnose bytes.now
  pub holds : MatchResult r (λ b. Holds bytes.now (program_of b)) (λ _. HoldsNone bytes.now)
  pub held : IfOk r (λ b. held b ≡ bytes.now)
  pub different : DifferentForms
