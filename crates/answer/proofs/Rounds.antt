-- Rounds over the rules find the smallest closed set.
use Rattle.std.proofs.Common.{◌≡◌, ℕ, zero, suc, ◌+◌, ◌<◌, Bool, true, false, not, ◌||◌, eqb, List, length, set, replicate, sym, refl, ◌∙◌, subst, inl, inr, arith, below_more}
use Rattle.std.proofs.lemmas.List.{get_or-set_same, get_or-set_other}
use Rattle.std.proofs.lemmas.Bool.{or_cases, or_left, or_right, eq-eqb, ne_eqb, eqb-true, both_ways, not-true, not_from_true, not_from_false, cases_eq}
use Rattle.book.specs.Program.{Program, nth_rule, rule_count}
use Rattle.answer.specs.Tests.{each_of}
use Rattle.answer.specs.Answer.{Least}
use Rattle.answer.specs.Flags.{flagged}
use Rattle.answer.specs.Rounds.{Heeds, Inner, absent, Added, Went}
use Rattle.answer.proofs.Tests.{untrue, each_mono, many_lt}

-- a flag more
pub set_flag : (xs : List Bool) (x a : ℕ) → x < length xs → flagged (set xs x true) a ≡ (eqb a x || flagged xs a)
set_flag xs x a l =
    elim (cases_eq a x) [
      | inl e ↦ rw (e, eq-eqb x x refl) (get_or-set_same xs x true false l)
      | inr e ↦ rw (ne_eqb a x e) (get_or-set_other xs x a true false e)
    ]

-- a new flag leaves fewer atoms without one
fewer : (xs : List Bool) (h : ℕ) → h < 128 → h < length xs → flagged xs h ≡ false → absent (set xs h true) < absent xs
unfolding absent
fewer xs h l m e =
    many_lt (λ a. not (flagged (set xs h true) a)) (λ a. not (flagged xs a)) 128
    (λ a q. not_from_false _ (untrue (flagged xs a) (λ z. both_ways _ (not-true _ q) (set_flag xs h a m ∙ or_right _ _ z))))
    h l (not_from_true _ (set_flag xs h h m ∙ or_left _ _ (eq-eqb h h refl))) (not_from_false _ e)

module _ (p : Program) (used : ℕ → Bool) where
  -- the head of a rule used whose positive atoms are within every closed set is so too
  wider : (xs : List Bool) (k : ℕ) → k < rule_count p → (nth_rule p k).head < length xs → used k ≡ true
      → each_of (flagged xs) (nth_rule p k).positives ≡ true → Inner p used xs → Inner p used (set xs (nth_rule p k).head true)
  wider xs k l m u e I t C a h =
      elim (or_cases (eqb a (nth_rule p k).head) (flagged xs a) (sym (set_flag xs (nth_rule p k).head a m) ∙ h)) [
        | inl z ↦ C k a l z u (each_mono (flagged xs) t (I t C) (nth_rule p k).positives e)
        | inr z ↦ I t C a z
      ]

  -- a rule gives its head to the flags
  gives : (k : ℕ) (zs ys : List Bool) → k < rule_count p → length zs ≡ 128 → used k ≡ true → Added (nth_rule p k) zs true ys
      → (absent ys < absent zs) × (Inner p used zs → Inner p used ys)
  gives k zs ys l m u d =
      let z = d.3 in
      rw d.0 (fewer zs (nth_rule p k).head z (omega arith) d.2, λ I. wider zs k l (omega arith) u d.1 I)

  -- one rule more in a round, that is used and gives its head
  pub went_given : (k : ℕ) (xs zs ys : List Bool) (c : Bool) → k < rule_count p → length zs ≡ 128
      → Went p used k xs c zs → used k ≡ true → Added (nth_rule p k) zs true ys → Went p used (k + 1) xs true ys
  went_given k xs zs ys true l m w u d =
      let g = gives k zs ys l m u d in
      let f = w.0 in
      let b = g.0 in
      (omega arith, λ I. g.1 (w.1 I))
  went_given k xs zs ys false l m w u d =
      let g = gives k zs ys l m u d in (subst (λ ws. absent ys < absent ws) w.0 g.0, λ I. g.1 (subst (Inner p used) (sym w.0) I))

  -- or that leaves the flags, which heed it
  pub went_left : (k : ℕ) (xs zs ys : List Bool) (c : Bool) → Went p used k xs c zs → ys ≡ zs → Heeds p used zs k → Went p used (k + 1) xs c ys
  went_left k xs zs ys true w e d = rw e w
  went_left k xs zs ys false w e d = (e ∙ w.0, below_more _ _ w.1 (subst (λ ws. Heeds p used ws k) w.0 d))

-- in a row of unset flags none is set
pub none_flagged : (n a : ℕ) → flagged (replicate n false) a ≡ false
none_flagged zero a = refl
none_flagged (suc n) zero = refl
none_flagged (suc n) (suc a) = none_flagged n a

-- no flags are within every set
pub inner_none : (p : Program) (used : ℕ → Bool) (n : ℕ) → Inner p used (replicate n false)
inner_none p used n t C a h = absurd (both_ways _ (none_flagged n a) h)

-- flags that heed every rule, and are within every closed set, are the smallest
pub least_flags : (p : Program) (used : ℕ → Bool) (xs : List Bool) → ((r : ℕ) → r < rule_count p → Heeds p used xs r) → Inner p used xs
    → Least p used (flagged xs)
least_flags p used xs H I = record {
  closed = λ r a l hd u e. rw (eqb-true a (nth_rule p r).head hd) (H r l u e);
  least = I;
}
