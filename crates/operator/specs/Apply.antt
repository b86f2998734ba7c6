-- What a call of an operator does: how it declines, and what it leaves. Assumes nothing.
use Rattle.std.specs.Prelude.{◌≡◌, ℕ, List, Option}
use Rattle.book.specs.declared.refusal.Refusal.{Refusal}
use Rattle.book.specs.Program.{Program}
use Rattle.answer.specs.Fault.{bytes_fault}
use Rattle.operator.specs.declared.operator.Verdict.{Verdict}
use Rattle.operator.specs.declared.operator.Verdict.TheVariants.{Marked, Clash}
use Rattle.operator.specs.Page.{object_count, Outcome, clash, marked}

-- a length other than the number of objects, at the length; else the first mark above 2
abbrev pub page_fault : Program → List ℕ → Option Refusal
page_fault b p = bytes_fault 2 (object_count b) p

-- the answer v, and the page q that is left of p: a clash leaves the marks
abbrev pub Answers : Outcome → List ℕ → Verdict → List ℕ → Type 0
Answers clash p v q = (v ≡ Clash) × (q ≡ p)
Answers (marked r) p v q = (v ≡ Marked) × (q ≡ r)
