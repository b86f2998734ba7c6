-- Pages: what fits, what follows, one more mark, open marks.
use Rattle.std.specs.Prelude.{◌≡◌, ℕ, zero, suc, ◌+◌, ◌<◌, ◌≤◌, Bool, true, false, List, [], ◌∷◌, length, ◌≢◌, slice_index, slice_index_or, slice_set, refl}
use Rattle.std.proofs.Common.{sym, ◌∙◌, ap, subst, inl, inr, arith}
use Rattle.std.specs.Str.{bytes_eq}
use Rattle.std.proofs.lemmas.Slice.Eq.{bytes_eq-Decides}
use Rattle.std.proofs.lemmas.List.{ext_get_or, length-set, get_or-set_same, get_or-set_other}
use Rattle.std.proofs.lemmas.Bool.{cases_eq, both_ways, eqb-true, eq-eqb, ne_eqb, lt-ltb, le-ltb}
use Rattle.book.specs.Program.{Program, nth_rule}
use Rattle.answer.specs.Answer.{inside, holds}
use Rattle.answer.proofs.Tests.{many_le, many_lt}
use Rattle.answer.proofs.StrictOrder.{first_difference}
use Rattle.operator.specs.Page.{Page, is_open, opens, object, true_in, Fits, Grows, Outcome, clash, marked, Follows, Allowed}

-- objects are atoms and bodies
object_atom : (b : Program) (f g : ℕ → Bool) (a : ℕ) → a < b.atoms → object b f g a ≡ f a
object_atom b f g a l = rw (lt-ltb a b.atoms l, object) refl

object_body : (b : Program) (f g : ℕ → Bool) (r : ℕ) → object b f g (b.atoms + r) ≡ g r
object_body b f g r = rw (le-ltb (b.atoms + r) b.atoms (omega arith), object) (ap g (omega arith))

pub atom_true : (b : Program) (s : List ℕ) (a : ℕ) → a < b.atoms → true_in b s a ≡ inside s a
atom_true b s = object_atom b (inside s) (λ r. holds s (nth_rule b r))

pub body_true : (b : Program) (s : List ℕ) (r : ℕ) → true_in b s (b.atoms + r) ≡ holds s (nth_rule b r)
body_true b s = object_body b (inside s) (λ r. holds s (nth_rule b r))

-- what follows from a page that follows
pub follows_refl : (b : Program) (p : List ℕ) → Page b p → Follows b p p
follows_refl b p G = record { page = G; growth = λ i l. refl; sound = λ s A F. F }

pub grows_trans : (p q r : List ℕ) → Grows p q → Grows q r → Grows p r
grows_trans p q r f g i l = let e = f i l in g i (omega arith) ∙ e

pub follows_then : (b : Program) (p q : List ℕ) → Follows b p q → (o : Outcome) → Allowed b q o → Allowed b p o
follows_then b p q G clash H = λ s A F. H s A (G.sound s A F)
follows_then b p q G (marked r) H =
    record { page = H.page; growth = grows_trans p q r G.growth H.growth; sound = λ s A F. H.sound s A (G.sound s A F) }

-- one more mark
pub set_bound : (p : List ℕ) (a v i m : ℕ) → v ≤ m → slice_index p i ≤ m → slice_index (slice_set p a v) i ≤ m
set_bound [] a v i m l h = h
set_bound (x ∷ p) zero v zero m l h = l
set_bound (x ∷ p) zero v (suc i) m l h = h
set_bound (x ∷ p) (suc a) v zero m l h = h
set_bound (x ∷ p) (suc a) v (suc i) m l h = set_bound p a v i m l h

pub page_set : (b : Program) (p : List ℕ) (a v : ℕ) → Page b p → v ≤ 2 → Page b (slice_set p a v)
page_set b p a v h l = record { long = length-set p a v ∙ h.long; marks = λ i. set_bound p a v i 2 l (h.marks i) }

pub grows_set : (p : List ℕ) (a v : ℕ) → slice_index p a ≡ 0 → Grows p (slice_set p a v)
grows_set p a v e i l = get_or-set_other p a i v 0 (λ z. let w : slice_index_or p i 0 ≡ 0 = rw z e in omega arith)

module _ (b : Program) (p : List ℕ) (i v : ℕ) (l : i < length p) where
  there : (k : ℕ) → k ≡ i → slice_index (slice_set p i v) k ≡ v
  there k e = rw e (get_or-set_same p i v 0 l)

  pub fits_set : (s : List ℕ) → Fits b p s → (v ≡ 2 → true_in b s i ≡ true) → (v ≡ 1 → true_in b s i ≢ true) → Fits b (slice_set p i v) s
  fits_set s F yes' no' = record {
    has =
        λ k h. elim (cases_eq k i) [
          | inl e ↦ subst (λ x. true_in b s x ≡ true) (sym e) (yes' (sym (there k e) ∙ eqb-true _ _ h))
          | inr e ↦ F.has k (rw (get_or-set_other p i k v 0 e) at h)
        ];
    lacks =
        λ k h. elim (cases_eq k i) [
          | inl e ↦ (λ t. no' (sym (there k e) ∙ eqb-true _ _ h) (subst (λ x. true_in b s x ≡ true) e t))
          | inr e ↦ F.lacks k (rw (get_or-set_other p i k v 0 e) at h)
        ];
  }

-- a page that has grown has no more open marks, and fewer if it is not the same
open_back : (p q : List ℕ) → Grows p q → (i : ℕ) → is_open q i ≡ true → is_open p i ≡ true
open_back p q g i e =
    elim (cases_eq (slice_index p i) 0) [
      | inl z ↦ eq-eqb _ _ z
      | inr z ↦ let y = g i (omega arith) in let x = eqb-true _ _ e in absurd (omega arith)
    ]

pub opens_le : (n : ℕ) (p q : List ℕ) → Grows p q → opens n q ≤ opens n p
opens_le n p q g = many_le (is_open q) (is_open p) n (open_back p q g)

pub opens_lt : (n : ℕ) (p q : List ℕ) → Grows p q → (k : ℕ) → k < n → slice_index p k ≡ 0 → 0 < slice_index q k → opens n q < opens n p
opens_lt n p q g k l e m =
    many_lt (is_open q) (is_open p) n (open_back p q g) k l (ne_eqb _ _ (λ z. omega arith)) (eq-eqb _ _ e)

pub opens_moved : (n : ℕ) (p q : List ℕ) → length p ≡ n → length q ≡ n → Grows p q → bytes_eq p q ≡ false → opens n q < opens n p
opens_moved n p q lp lq g e =
    elim (first_difference (λ i. slice_index p i) (λ i. slice_index q i) n) [
      | inl h ↦ absurd (both_ways _ e ((bytes_eq-Decides p q).1 (ext_get_or 0 p q (lp ∙ sym lq) (λ i l. h i (rw lp at l)))))
      | inr d ↦
          let z = g d.at in
          let y = d.differ in
          elim (cases_eq (slice_index p d.at) 0) [
            | inl v ↦ opens_lt n p q g d.at d.low v (omega arith)
            | inr v ↦ absurd (y (sym (z (omega arith))))
          ]
    ]
