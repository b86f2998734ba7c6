-- The table of levels, read as a list.
use Rattle.std.proofs.Common.{◌≡◌, ℕ, zero, suc, ◌+◌, ◌<◌, ◌≤◌, ◌≢◌, List, ◌∷◌, length, take, set, Some, None, sym, refl, ap, ◌∙◌, inl, inr, add-one, arith}
use Rattle.std.proofs.Math.Seq.{take-set-lt}
use Rattle.std.proofs.lemmas.List.{get_or-set_same, get_or-set_other, get_or-take, length-take, length-take-le, take-set-le, set_past}
use Rattle.std.proofs.lemmas.Bool.{cases_eq, cases_lt}
use Rattle.inquiry.specs.Walk.{inn, level, ended, at, retreat}
use Rattle.inquiry.specs.declared.walk.Level.{Level}
use Rattle.inquiry.specs.declared.walk.Side.TheVariants.{Out, In}
use Rattle.inquiry.specs.View.{side_of, no_level, level_at, level_of, levels_of}
use Rattle.inquiry.specs.Turns.{LatestOut}

-- a write within what is taken or past it
pub take_set_any : (z : ℕ) (xs : List ℕ) (i v : ℕ) → take z (set xs i v) ≡ set (take z xs) i v
take_set_any z xs i v = elim (cases_lt i z) [
  | inl l ↦ take-set-lt z xs i v l
  | inr l ↦ take-set-le z xs i v l ∙ sym (set_past (take z xs) i v (simp length-take (omega arith)))
]

-- a level written at d is not among the first k
levels_keep : (z : ℕ) (t : List Level) (d : ℕ) (l : Level) (k : ℕ) → k ≤ d → levels_of z (set t d l) k ≡ levels_of z t k
levels_keep z t d l zero h = refl
levels_keep z t d l (suc k) h =
    let ne : k ≢ d = λ e. omega arith in
    let e = get_or-set_other t d k l no_level ne in
    let r = levels_keep z t d l k (omega arith) in
    ap (λ x. level_of z x ∷ levels_of z (set t d l) k) e ∙ ap (λ ls. level_of z (level_at t k) ∷ ls) r

levels_put : (z : ℕ) (t : List Level) (d : ℕ) (l : Level) → d < length t → levels_of z (set t d l) (suc d) ≡ level_of z l ∷ levels_of z t d
levels_put z t d l h = ap (λ x. level_of z x ∷ levels_of z (set t d l) d) (get_or-set_same t d l no_level h) ∙ ap (λ ls. level_of z l ∷ ls) (levels_keep z t d l d (omega arith))

-- a walk that has the level l at d and the page p marked at a
pub put_walk : (z : ℕ) (t : List Level) (d : ℕ) (l : Level) (p : List ℕ) (a v : ℕ) → d < length t → at (take z (set p a v)) (levels_of z (set t d l) (d + 1)) ≡ at (set (take z p) a v) (level_of z l ∷ levels_of z t d)
put_walk z t d l p a v h = rw (add-one, levels_put z t d l h, take_set_any)

pub retreat_in : (z : ℕ) (t : List Level) (d : ℕ) → (level_at t d).side ≡ In → retreat (levels_of z t (suc d)) ≡ retreat (levels_of z t d)
retreat_in z t d e = ap (λ v. retreat (level (side_of v) (level_at t d).atom (take z (level_at t d).page) ∷ levels_of z t d)) e

pub retreat_out : (z : ℕ) (t : List Level) (d : ℕ) → (level_at t d).side ≡ Out → retreat (levels_of z t (suc d)) ≡ at (set (take z (level_at t d).page) (level_at t d).atom 2) (level inn (level_at t d).atom (take z (level_at t d).page) ∷ levels_of z t d)
retreat_out z t d e = ap (λ v. retreat (level (side_of v) (level_at t d).atom (take z (level_at t d).page) ∷ levels_of z t d)) e

-- the levels from d on all try in
retreat_ins : (z : ℕ) (t : List Level) (d k : ℕ) → d ≤ k → ((i : ℕ) → d ≤ i → i < k → (level_at t i).side ≡ In) → retreat (levels_of z t k) ≡ retreat (levels_of z t d)
retreat_ins z t d zero l h = let e : d ≡ 0 = omega arith in ap (λ i. retreat (levels_of z t i)) (sym e)
retreat_ins z t d (suc k) l h =
    elim (cases_eq d (suc k)) [
      | inl e ↦ ap (λ i. retreat (levels_of z t i)) (sym e)
      | inr n ↦ retreat_in z t k (h k (omega arith) (omega arith)) ∙ retreat_ins z t d k (omega arith) (λ i a b. h i a (omega arith))
    ]

-- the first k levels of the table, and the latest of them that tries out
front_at : (t : List Level) (k i : ℕ) → i < k → level_at (take k t) i ≡ level_at t i
front_at t k i l = get_or-take k t i no_level (omega arith)

pub no_out : (z : ℕ) (t : List Level) (k : ℕ) → k ≤ length t → LatestOut (take k t) None → retreat (levels_of z t k) ≡ ended
no_out z t k l h = retreat_ins z t 0 k (omega arith) (λ i a b. rw front_at at (h i (simp length-take-le (omega arith))))

pub latest : (z : ℕ) (t : List Level) (k d : ℕ) → k ≤ length t → LatestOut (take k t) (Some d)
    → (d < k) × (retreat (levels_of z t k) ≡ at (set (take z (level_at t d).page) (level_at t d).atom 2) (level inn (level_at t d).atom (take z (level_at t d).page) ∷ levels_of z t d))
latest z t k d l h =
    let n : length (take k t) ≡ k = simp length-take-le (omega arith) in
    let m : d < k = omega arith in
    (m, retreat_ins z t (suc d) k m (λ i a b. rw front_at at (h.2 i a (omega arith))) ∙ retreat_out z t d (rw front_at at h.1))
