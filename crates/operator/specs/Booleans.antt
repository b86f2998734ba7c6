-- Tests that are passed or not, over lists of numbers and over the numbers below a bound.
use Rattle.std.specs.Prelude.{◌≡◌, ℕ, zero, suc, ◌<◌, ◌≤◌, Bool, true, false, not, ◌&&◌, List, [], ◌∷◌, Decides, ◌==◌, ◌≢◌, nat_eq, refl}
use Rattle.std.proofs.Common.{sym, inl, inr, arith, lit≤}
use Rattle.std.specs.List.{AllByRecursion}
use Rattle.std.proofs.lemmas.Bool.{true≢false, false≢true, and_parts, and_from, or_cases, eqb-true, both_ways, not-true}
use Rattle.std.proofs.lemmas.Bool.Decides.{Decides-below_or, Decides-below_and}
use Rattle.answer.specs.Tests.{each_of, some_of, each_below, some_below, bit, how_many}

pub denied : (x : Bool) → not x ≡ true → x ≢ true
denied x n e = both_ways x (not-true x n) e

pub deny : (x : Bool) → (x ≢ true) → not x ≡ true
deny true f = absurd (f refl)
deny false f = refl

pub stable : (x : Bool) → ((x ≢ true) → ⊥) → x ≡ true
stable true f = refl
stable false f = absurd (f false≢true)

pub and_4 : (w x y z : Bool) → (w && x && y && z) ≡ true → (w ≡ true) × (x ≡ true) × (y ≡ true) × (z ≡ true)
and_4 w x y z e =
    let f = and_parts (w && x && y) z e in
    let g = and_parts (w && x) y f.0 in
    let h = and_parts w x g.0 in
    (h.0, h.1, g.1, f.1)

-- numbers with Q that pass one test pass another
pub each_weaker : (Q : ℕ → Type 0) (t u : ℕ → Bool) → ((x : ℕ) → Q x → t x ≡ true → u x ≡ true)
    → (xs : List ℕ) → AllByRecursion Q xs → each_of t xs ≡ true → each_of u xs ≡ true
each_weaker Q t u f [] q e = refl
each_weaker Q t u f (x ∷ xs) q e =
    let h = and_parts (t x) (each_of t xs) e in
    and_from (u x) (each_of u xs) (f x q.0 h.0) (each_weaker Q t u f xs q.1 h.1)

-- tests that no number with Q passes both
pub some_each : (Q : ℕ → Type 0) (t u : ℕ → Bool) → ((x : ℕ) → Q x → t x ≡ true → u x ≢ true)
    → (xs : List ℕ) → AllByRecursion Q xs → some_of t xs ≡ true → each_of u xs ≢ true
some_each Q t u f [] q s e = true≢false (sym s)
some_each Q t u f (x ∷ xs) q s e =
    let h = and_parts (u x) (each_of u xs) e in
    elim (or_cases (t x) (some_of t xs) s) [ inl a ↦ f x q.0 a h.0 | inr a ↦ some_each Q t u f xs q.1 a h.1 ]

-- a number of the list passes what each of them passes
pub among : (t : ℕ → Bool) (a : ℕ) (xs : List ℕ) → some_of (nat_eq a) xs ≡ true → each_of t xs ≡ true → t a ≡ true
among t a [] s e = absurd (true≢false (sym s))
among t a (x ∷ xs) s e =
    let h = and_parts (t x) (each_of t xs) e in
    elim (or_cases (a == x) (some_of (nat_eq a) xs) s) [ inl k ↦ rw (eqb-true a x k) h.0 | inr k ↦ among t a xs k h.1 ]

pub some_is : (t : ℕ → Bool) (n : ℕ) → Decides (some_below t n) ((k : ℕ) × (k < n) × (t k ≡ true))
some_is t n = Decides-below_or t (λ k. t k ≡ true) (some_below t) (λ k. (λ e. e, λ e. e)) refl (λ _. refl) n

pub each_is : (t : ℕ → Bool) (n : ℕ) → Decides (each_below t n) ((k : ℕ) → k < n → t k ≡ true)
each_is t n = Decides-below_and t (λ k. t k ≡ true) (each_below t) (λ k. (λ e. e, λ e. e)) refl (λ _. refl) n

pub many_most : (t : ℕ → Bool) (n : ℕ) → how_many t n ≤ n
many_most t zero = lit≤ tt
many_most t (suc n) = let h = many_most t n in let k = bit_most (t n) in omega arith
  where
    bit_most : (x : Bool) → bit x ≤ 1
    bit_most true = lit≤ tt
    bit_most false = lit≤ tt
