-- Tests over lists of numbers and over the numbers below a bound.
use Rattle.std.proofs.Common.{◌≡◌, ℕ, zero, suc, ◌<◌, ◌≤◌, Bool, true, false, List, length, get_or, Decides, sym, refl, ap, ◌∙◌, subst, inl, inr, arith, lit≤}
use Rattle.std.proofs.ByRecursion.{All-get_or, All-from_get_or, Decides-by_and}
use Rattle.std.proofs.lemmas.Bool.{cases_Bool, cases_eq}
use Rattle.std.proofs.lemmas.Bool.Decides.{same_from_decides, Decides-like}
use Rattle.answer.specs.Tests.{each_of, bit, how_many}

-- a Boolean that is not true is false
pub untrue : (x : Bool) → (x ≡ true → ⊥) → x ≡ false
untrue x f = elim (cases_Bool x) [ inl e ↦ absurd (f e) | inr e ↦ e ]

-- a test of a list is a test at each place
pub each_decides : (t : ℕ → Bool) (xs : List ℕ) → Decides (each_of t xs) ((i : ℕ) → i < length xs → t (get_or xs i 0) ≡ true)
each_decides t xs =
    Decides-like (each_of t xs) (λ h i l. All-get_or (λ x. t x ≡ true) xs i 0 l h) (All-from_get_or (λ x. t x ≡ true) xs 0)
    (Decides-by_and t (λ x. t x ≡ true) (each_of t) (λ x. (λ e. e, λ e. e)) refl (λ _ _. refl) xs)

-- what passes one test at each number of a list passes the other
pub each_mono : (t u : ℕ → Bool) → ((x : ℕ) → t x ≡ true → u x ≡ true) → (xs : List ℕ) → each_of t xs ≡ true → each_of u xs ≡ true
each_mono t u f xs e = (each_decides u xs).1 (λ i l. f (get_or xs i 0) ((each_decides t xs).0 e i l))

-- tests that agree at each number of a list agree on the list
pub each_same : (t u : ℕ → Bool) (xs : List ℕ) → ((i : ℕ) → t (get_or xs i 0) ≡ u (get_or xs i 0)) → each_of t xs ≡ each_of u xs
each_same t u xs e =
    same_from_decides (each_of t xs) (each_of u xs) (each_decides t xs)
    (Decides-like (each_of u xs) (λ h i l. e i ∙ h i l) (λ h i l. sym (e i) ∙ h i l) (each_decides u xs))

-- a bit grows with its test
bit_le : (x y : Bool) → (x ≡ true → y ≡ true) → bit x ≤ bit y
bit_le true y f = rw (f refl) (lit≤ tt)
bit_le false y f = omega arith

-- a test that passes no more counts no more
pub many_le : (t u : ℕ → Bool) (n : ℕ) → ((i : ℕ) → t i ≡ true → u i ≡ true) → how_many t n ≤ how_many u n
many_le t u zero f = lit≤ tt
many_le t u (suc n) f = let h = many_le t u n f in let k = bit_le (t n) (u n) (f n) in omega arith

-- and fewer if it fails at a number that passed
pub many_lt : (t u : ℕ → Bool) (n : ℕ) → ((i : ℕ) → t i ≡ true → u i ≡ true) → (k : ℕ) → k < n → t k ≡ false → u k ≡ true
    → how_many t n < how_many u n
many_lt t u zero f k l x y = absurd (omega arith)
many_lt t u (suc n) f k l x y =
    elim (cases_eq k n) [
      | inl e ↦
          let h = many_le t u n f in
          let v : bit (t n) ≡ 0 = subst (λ (i : ℕ). bit (t i) ≡ 0) e (ap bit x) in
          let w : bit (u n) ≡ 1 = subst (λ (i : ℕ). bit (u i) ≡ 1) e (ap bit y) in
          omega arith
      | inr e ↦ let h = many_lt t u n f k (omega arith) x y in let w = bit_le (t n) (u n) (f n) in omega arith
    ]
