-- A body and its literals, for any two parts and any marks: no book and no place.
use Rattle.std.specs.Prelude.{◌≡◌, ℕ, Bool, true, ◌||◌, List, ◌==◌, ◌≢◌, nat_eq}
use Rattle.std.proofs.Common.{inl, inr}
use Rattle.std.specs.List.{AllByRecursion}
use Rattle.std.proofs.lemmas.Bool.{and_parts, and_from, or_cases, eqb-true}
use Rattle.book.specs.Program.{ProgramRule}
use Rattle.answer.specs.Tests.{each_of, some_of}
use Rattle.answer.specs.Answer.{inside, outside, holds}
use Rattle.operator.specs.Page.{is_open, is_out, is_in}
use Rattle.operator.specs.Operator.{satisfied, failed, last_positive, last_negative}
use Rattle.operator.specs.Booleans.{denied, deny, and_4, each_weaker, some_each, among}

module _ (s : List ℕ) (r : ProgramRule) where
  pub holds_pos : holds s r ≡ true → each_of (inside s) r.positives ≡ true
  holds_pos h = (and_parts (each_of (inside s) r.positives) _ h).0

  pub holds_neg : holds s r ≡ true → each_of (outside s) r.negatives ≡ true
  holds_neg h = (and_parts (each_of (inside s) r.positives) _ h).1

  pub pos_in : (a : ℕ) → holds s r ≡ true → some_of (nat_eq a) r.positives ≡ true → inside s a ≡ true
  pos_in a h e = among (inside s) a r.positives e (holds_pos h)

  pub neg_out : (a : ℕ) → holds s r ≡ true → some_of (nat_eq a) r.negatives ≡ true → inside s a ≢ true
  neg_out a h e = denied _ (among (outside s) a r.negatives e (holds_neg h))

-- the marks of the atoms with Q tell of the set, and the atoms of the body have Q
module _ (p s : List ℕ) (Q : ℕ → Type 0) (has : (a : ℕ) → Q a → is_in p a ≡ true → inside s a ≡ true) (lacks : (a : ℕ) → Q a → is_out p a ≡ true → inside s a ≢ true) (r : ProgramRule) (pos : AllByRecursion Q r.positives) (neg : AllByRecursion Q r.negatives) where
  made : (t u : ℕ → Bool) → ((x : ℕ) → Q x → t x ≡ true → inside s x ≡ true) → ((x : ℕ) → Q x → u x ≡ true → inside s x ≢ true) → each_of t r.positives ≡ true → each_of u r.negatives ≡ true → holds s r ≡ true
  made t u f g x y = and_from _ _ (each_weaker Q t (inside s) f r.positives pos x) (each_weaker Q u (outside s) (λ a k h. deny _ (g a k h)) r.negatives neg y)

  pub satisfied_holds : satisfied p r ≡ true → holds s r ≡ true
  satisfied_holds e = let w = and_parts (each_of (is_in p) r.positives) _ e in made (is_in p) (is_out p) has lacks w.0 w.1

  pub failed_fails : failed p r ≡ true → holds s r ≢ true
  failed_fails e h = elim (or_cases (some_of (is_out p) r.positives) _ e) [
    | inl k ↦ some_each Q (is_out p) (inside s) lacks r.positives pos k (holds_pos s r h)
    | inr k ↦ some_each Q (is_in p) (outside s) (λ x m y z. denied _ z (has x m y)) r.negatives neg k (holds_neg s r h)
  ]

  -- with the last literal satisfied too the body would hold
  pub last_positive_holds : (a : ℕ) → last_positive p a r ≡ true → inside s a ≡ true → holds s r ≡ true
  last_positive_holds a e i =
      let v = and_4 (is_open p a) _ _ _ e in
      made (λ x. (a == x) || is_in p x) (is_out p) (λ x m u. elim (or_cases (a == x) _ u) [ inl z ↦ rw (eqb-true a x z) at i | inr z ↦ has x m z ]) lacks v.2 v.3

  pub last_negative_holds : (a : ℕ) → last_negative p a r ≡ true → (inside s a ≢ true) → holds s r ≡ true
  last_negative_holds a e i =
      let v = and_4 (is_open p a) _ _ _ e in
      made (is_in p) (λ x. (a == x) || is_out p x) has (λ x m u. elim (or_cases (a == x) _ u) [ inl z ↦ (λ j. i (rw (eqb-true a x z) j)) | inr z ↦ lacks x m z ]) v.3 v.2
