-- What the first of a row of tests finds.
use Rattle.std.proofs.Common.{◌≡◌, ℕ, zero, suc, ◌+◌, ◌<◌, ◌≤◌, Some, None, Option, refl, ◌∙◌, inl, inr, eq-or-lt_of_le, add-one, arith}
use Rattle.std.specs.Option.{option_map}
use Rattle.book.specs.First.{first, or_else}

-- where nothing was found below k, what is found below k + 1 is found at k
pub first_more : {A : Type 0} (f : ℕ → Option A) (k : ℕ) → first f k ≡ None → first f (k + 1) ≡ f k
first_more f k e = rw (add-one, e)

pub or_else_found : {A : Type 0} (o p : Option A) (x : A) → o ≡ Some x → or_else o p ≡ Some x
or_else_found o p x e = rw e

pub or_else_none : {A : Type 0} (o p : Option A) → or_else o p ≡ None → (o ≡ None) × (p ≡ None)
or_else_none None p e = (refl, e)
or_else_none (Some x) p e = absurd (grind arith)

-- what was found stays found
pub first_stays : {A : Type 0} (f : ℕ → Option A) (x : A) (k n : ℕ) → k ≤ n → first f k ≡ Some x → first f n ≡ Some x
first_stays f x k zero h e = let z : k ≡ 0 = omega arith in rw z at e
first_stays f x k (suc n) h e =
    elim (eq-or-lt_of_le h) [
      | inl g ↦ rw g at e
      | inr g ↦ or_else_found (first f n) (f n) x (first_stays f x k n (omega arith) e)
    ]

-- where nothing was found below k, and f finds x at k, x is the first
pub first_found : {A : Type 0} (f : ℕ → Option A) (x : A) (k n : ℕ)
    → k < n → first f k ≡ None → f k ≡ Some x → first f n ≡ Some x
first_found f x k n h e g = first_stays f x (k + 1) n (omega arith) (first_more f k e ∙ g)

pub mapped_none : {A B : Type 0} (f : A → B) (o : Option A) → option_map f o ≡ None → o ≡ None
mapped_none f None e = refl
mapped_none f (Some x) e = absurd (grind arith)

-- nothing was found below n, so nothing is found at any k below it
pub first_none : {A : Type 0} (f : ℕ → Option A) (k n : ℕ) → k < n → first f n ≡ None → f k ≡ None
first_none f k zero h e = absurd (omega arith)
first_none f k (suc n) h e =
    elim (eq-or-lt_of_le h) [
      | inl g ↦ let s : k ≡ n = omega arith in rw s (or_else_none (first f n) (f n) e).1
      | inr g ↦ first_none f k n (omega arith) (or_else_none (first f n) (f n) e).0
    ]

-- nothing is found at any index, so nothing is found
pub first_all : {A : Type 0} (f : ℕ → Option A) (n : ℕ) → ((k : ℕ) → k < n → f k ≡ None) → first f n ≡ None
first_all f zero h = refl
first_all f (suc n) h = rw (first_all f n (λ k l. h k (omega arith))) (h n (omega arith))
