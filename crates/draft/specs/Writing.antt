-- What a written draft keeps. Assumes nothing.
use Rattle.std.specs.Prelude.{◌≡◌, ℕ, cond, List, ◌++◌, length, drop, Some, None, Option, nat_lt, refl}
use Rattle.book.specs.declared.refusal.Cause.TheVariants.{Buffer}
use Rattle.book.specs.declared.refusal.Refusal.{Refusal}
use Rattle.book.specs.Refusal.{refuse}
use Rattle.book.specs.Program.{Program}
use Rattle.book.specs.Format.{encode}
use Rattle.book.specs.Layout.{decode}
use Rattle.book.specs.Invariant.{Bytes}
use Rattle.book.specs.Reading.{Holds}
use Rattle.book.specs.Diagnosis.{diagnose}

-- the length of the written form of a program
unfoldable pub form_length : Program → ℕ
form_length p = length (encode p)

-- a buffer of so many bytes for a program
abbrev pub write_fault : Program → ℕ → Option Refusal
write_fault p room = cond (nat_lt room (form_length p)) (Some (refuse 11 Buffer refl (form_length p))) None

-- the written form of a program in the first bytes, and every other byte as it was
abbrev pub written_over : Program → List ℕ → List ℕ
written_over p old = encode p ++ drop (form_length p) old

-- the written form of the program is accepted, this very program is read back from it, and it is the form of no other
pub record ReadBack (p : Program) : Type 0 where
  pub accepted : diagnose (encode p) ≡ None
  pub same : decode (encode p) ≡ p
  pub holds : Holds (encode p) p

-- any accepted bytes that mean the program are its written form
abbrev pub OneForm : Program → Type 0
OneForm p = (bs : List ℕ) → Bytes bs → diagnose bs ≡ None → decode bs ≡ p → bs ≡ encode p
