-- What is known of a call that is not declined.
use Rattle.std.proofs.Common.{◌≡◌, ℕ, zero, suc, ◌<◌, ◌≤◌, List, length, get_or, take, replicate, None, Ok, Err, Result, sym, refl, subst, inl, inr, arith}
use Rattle.std.specs.Result.{result_err, IsOk}
use Rattle.book.specs.declared.refusal.Refusal.{Refusal}
use Rattle.std.proofs.lemmas.Bool.{cases_eq, eq-eqb, ne_eqb}
use Rattle.std.proofs.lemmas.Bool.Decides.{nat_tests}
use Rattle.book.proofs.Firsts.{first_all}
use Rattle.std.proofs.lemmas.List.{length-take-le}
use Rattle.book.specs.Program.{Program}
use Rattle.answer.specs.Answer.{Sheet}
use Rattle.answer.specs.Fault.{value_fault, values_fault, bytes_fault, sheet_fault}
use Rattle.answer.proofs.Values.{all_low}
use Rattle.operator.specs.Page.{object_count}
use Rattle.operator.specs.Apply.{page_fault}
use Rattle.inquiry.specs.Calls.{wish_fault}

pub accepted : {A : Type 0} (r : Result A Refusal) → result_err r ≡ None → IsOk r
accepted (Ok x) h = refl
accepted (Err e) h = cc

pub wish_fits : (n a v : ℕ) → wish_fault n a v ≡ None → (a < n) × (v ≤ 2)
wish_fits n a v e = (grind (arith, nat_tests), grind (arith, nat_tests))

pub seek_sheet : (n : ℕ) (x : List ℕ) → sheet_fault n x ≡ None → Sheet n x
seek_sheet n x e =
    elim (cases_eq (length x) n) [
      | inl l ↦
          let h : values_fault 1 x n ≡ None = rw (eq-eqb (length x) n l) at e in
          record { long = l; marks = all_low 1 x (subst (λ m. values_fault 1 x m ≡ None) (sym l) h) }
      | inr l ↦ let h = rw (ne_eqb (length x) n l) at e in absurd (cc)
    ]

-- bytes up to the most are not declined
low_byte : (most v i : ℕ) → v ≤ most → value_fault most i v ≡ None
low_byte most v i h = grind (arith, nat_tests)

pub no_bytes_fault : (most n : ℕ) (s : List ℕ) → length s ≡ n → ((i : ℕ) → get_or s i 0 ≤ most) → bytes_fault most n s ≡ None
no_bytes_fault most n s l h =
    rw (eq-eqb (length s) n l) (first_all (λ i. value_fault most i (get_or s i 0)) n (λ i m. low_byte most (get_or s i 0) i (h i)))

pub no_sheet_fault : (n : ℕ) (s : List ℕ) → Sheet n s → sheet_fault n s ≡ None
no_sheet_fault n s S = no_bytes_fault 1 n s S.long S.marks

-- a page cut from the code's array, of k marks
pub no_page_fault : (b : Program) (p : List ℕ) (k : ℕ) → k ≡ object_count b → k ≤ length p → ((i : ℕ) → get_or (take (object_count b) p) i 0 ≤ 2) → page_fault b (take k p) ≡ None
no_page_fault b p k e l h = rw e (no_bytes_fault 2 (object_count b) (take (object_count b) p) (length-take-le (object_count b) p (omega arith)) h)

-- no place of zeros is marked
pub get_or_none : (n a : ℕ) → get_or {A = ℕ} (replicate n 0) a 0 ≡ 0
get_or_none zero a = refl
get_or_none (suc n) zero = refl
get_or_none (suc n) (suc a) = get_or_none n a
