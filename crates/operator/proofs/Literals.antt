-- Tests over the atoms of a part, atom by atom.
use Rattle.std.proofs.Common.{◌≡◌, ℕ, Bool, true, false, ◌&&◌, ◌||◌, eqb, List, [], ◌∷◌, ◌++◌, refl, ap, ◌∙◌, inl, inr}
use Rattle.std.proofs.lemmas.Bool.{and_parts, or_cases, or_left, or_right, eqb-true, false≢true}
use Rattle.answer.specs.Tests.{each_of, some_of}

and_swap : (x y z : Bool) → (x && (y && z)) ≡ (y && (x && z))
and_swap true y z = refl
and_swap false true z = refl
and_swap false false z = refl

or_swap : (x y z : Bool) → (x || (y || z)) ≡ (y || (x || z))
or_swap false y z = refl
or_swap true true z = refl
or_swap true false z = refl

-- one atom more at the end
pub each_last : (t : ℕ → Bool) (xs : List ℕ) (x : ℕ) → each_of t (xs ++ x ∷ []) ≡ (t x && each_of t xs)
each_last t [] x = refl
each_last t (y ∷ xs) x = ap (λ v. t y && v) (each_last t xs x) ∙ and_swap (t y) (t x) (each_of t xs)

pub some_last : (t : ℕ → Bool) (xs : List ℕ) (x : ℕ) → some_of t (xs ++ x ∷ []) ≡ (t x || some_of t xs)
some_last t [] x = refl
some_last t (y ∷ xs) x = ap (λ v. t y || v) (some_last t xs x) ∙ or_swap (t y) (t x) (some_of t xs)

-- an atom in the midst
pub some_amid : (t : ℕ → Bool) (xs : List ℕ) (x : ℕ) (ys : List ℕ) → t x ≡ true → some_of t (xs ++ x ∷ ys) ≡ true
some_amid t [] x ys e = or_left _ _ e
some_amid t (y ∷ xs) x ys e = or_right (t y) _ (some_amid t xs x ys e)

-- where every atom passes one test and some atom another, an atom passes both
pub both_at : (t u : ℕ → Bool) (xs : List ℕ) → each_of t xs ≡ true → some_of u xs ≡ true → (x : ℕ) × (t x ≡ true) × (u x ≡ true)
both_at t u [] e f = absurd (false≢true f)
both_at t u (x ∷ xs) e f =
    let a = and_parts (t x) (each_of t xs) e in
    elim (or_cases (u x) (some_of u xs) f) [ inl z ↦ (x, a.0, z) | inr z ↦ both_at t u xs a.1 z ]

-- what every atom passes, an atom of the part passes
pub each_at : (t : ℕ → Bool) (c : ℕ) (xs : List ℕ) → each_of t xs ≡ true → some_of (eqb c) xs ≡ true → t c ≡ true
each_at t c xs e f = let (x, h, z) = both_at t (eqb c) xs e f in rw (eqb-true c x z) h
