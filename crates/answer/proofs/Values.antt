-- Where bytes are declined as a sheet or a page.
use Rattle.std.proofs.Common.{◌≡◌, ℕ, ◌+◌, ◌<◌, ◌≤◌, List, length, get_or, Some, None, sym, ◌∙◌, inl, inr, arith}
use Rattle.std.proofs.lemmas.List.{get_or_past}
use Rattle.std.proofs.lemmas.Bool.{cases_lt}
use Rattle.std.proofs.lemmas.Bool.Decides.{nat_tests}
use Rattle.book.specs.declared.refusal.Refusal.{Refusal}
use Rattle.book.proofs.Firsts.{first_more, first_found, first_none}
use Rattle.answer.specs.Fault.{value_fault, values_fault}

-- the first byte that has a fault
pub found_at : (most : ℕ) (s : List ℕ) (i n : ℕ) (f : Refusal) → i < n → values_fault most s i ≡ None → Some f ≡ value_fault most i (get_or s i 0)
    → Some f ≡ values_fault most s n
found_at most s i n f l e h = sym (first_found (λ i. value_fault most i (get_or s i 0)) f i n l e (sym h))

-- one byte more without a fault
pub none_more : (most : ℕ) (s : List ℕ) (i : ℕ) → values_fault most s i ≡ None → None ≡ value_fault most i (get_or s i 0)
    → values_fault most s (i + 1) ≡ None
none_more most s i e h = first_more (λ i. value_fault most i (get_or s i 0)) i e ∙ sym h

low : (most v i : ℕ) → value_fault most i v ≡ None → v ≤ most
low most v i e = grind (arith, nat_tests)

-- bytes that have no fault are none above the most
pub all_low : (most : ℕ) (s : List ℕ) → values_fault most s (length s) ≡ None → (i : ℕ) → get_or s i 0 ≤ most
all_low most s e i =
    elim (cases_lt i (length s)) [
      | inl l ↦ low most (get_or s i 0) i (first_none (λ i. value_fault most i (get_or s i 0)) i (length s) l e)
      | inr l ↦ let z = get_or_past s i 0 l in omega arith
    ]
