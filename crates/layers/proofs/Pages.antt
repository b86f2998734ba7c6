-- What an operator makes of a page of a book.
use Rattle.std.specs.Prelude.{Result, Ok, Err, MatchResult, IsOk}
use Rattle.std.specs.Result.{result_err}
use Rattle.std.proofs.Common.{◌≡◌, ℕ, List, length, get_or, None, refl, arith}
use Rattle.std.proofs.lemmas.Bool.{eq-eqb}
use Rattle.std.proofs.lemmas.Bool.Decides.{nat_tests}
use Rattle.book.specs.Program.{Program}
use Rattle.book.specs.declared.book.Book.{Book}
use Rattle.book.specs.declared.refusal.Refusal.{Refusal}
use Rattle.book.specs.Reading.{program_of}
use Rattle.book.proofs.Firsts.{first_all}
use Rattle.book.proofs.Holding.{valid_book}
use Rattle.answer.specs.Fault.{value_fault}
use Rattle.operator.specs.declared.operator.Verdict.{Verdict}
use Rattle.operator.specs.Page.{object_count, Page, Outcome, clash, marked, Meaning, Allowed, Lawful}
use Rattle.operator.specs.Apply.{page_fault, Answers}

pub no_fault : (b : Program) (p : List ℕ) → Page b p → page_fault b p ≡ None
no_fault b p G =
    rw (eq-eqb (length p) (object_count b) G.long)
    (first_all (λ i. value_fault 2 i (get_or p i 0)) (object_count b) (λ i l. grind (arith, nat_tests, G.marks i)))

-- it is not declined
pub not_declined : (b : Program) (p : List ℕ) (r : Result Verdict Refusal) → Page b p → result_err r ≡ page_fault b p → IsOk r
not_declined b p (Ok v) G e = refl
not_declined b p (Err x) G e = let n = no_fault b p G in absurd (cc)

answered : (b : Program) (o : Outcome) (p q : List ℕ) (v : Verdict) → Page b p → Allowed b p o → Answers o p v q → Page b q
answered b clash p q v G A a = rw a.1 G
answered b (marked r) p q v G A a = rw a.1 A.page

-- a lawful operator leaves a page
pub page_left : (f : Meaning) → Lawful f → (k : Book) (p q : List ℕ) (r : Result Verdict Refusal) → Page (program_of k) p
    → MatchResult r (λ v. Answers (f (program_of k) p) p v q) (λ _. q ≡ p) → Page (program_of k) q
page_left f L k p q (Ok v) G a =
    answered (program_of k) (f (program_of k) p) p q v G (L (program_of k) (valid_book k) p G) a
page_left f L k p q (Err x) G e = rw e G
