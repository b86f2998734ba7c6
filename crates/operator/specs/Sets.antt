-- Answer sets are closed, founded and supported.
use Rattle.std.specs.Prelude.{◌≡◌, ℕ, ◌<◌, Bool, true, not, ◌&&◌, ◌||◌, List, ◌==◌, ◌≢◌, refl}
use Rattle.std.proofs.Common.{◌∙◌, subst, inl, inr}
use Rattle.std.proofs.lemmas.Bool.{and_parts, and_from, or_cases, or_left, or_right, not_from_false, cases_Bool, eqb-true, eq-eqb}
use Rattle.book.specs.Program.{Program, rule_count, nth_rule, headed}
use Rattle.answer.specs.Tests.{each_of, each_below, some_below}
use Rattle.answer.specs.Computed.{sheet_by}
use Rattle.answer.specs.Answer.{heads, inside, holds, reduct, Within, Closed, Answer}
use Rattle.answer.proofs.Tests.{each_mono}
use Rattle.answer.proofs.Sheets.{within, by_is, by_sheet, by_has}
use Rattle.operator.specs.Booleans.{denied, some_is, each_is}

-- some rule of the atom, every rule of the atom
abbrev pub some_rule : Program → ℕ → (ℕ → Bool) → Bool
some_rule b a t = some_below (λ r. heads b r a && t r) (rule_count b)

abbrev pub each_rule : Program → ℕ → (ℕ → Bool) → Bool
each_rule b a t = each_below (λ r. not (heads b r a) || t r) (rule_count b)

pub rules_apart : (b : Program) (a : ℕ) (t u : ℕ → Bool) → ((r : ℕ) → r < rule_count b → t r ≡ true → u r ≢ true)
    → some_rule b a t ≡ true → each_rule b a u ≢ true
rules_apart b a t u f s e =
    let (r, l, h) = (some_is (λ r. heads b r a && t r) (rule_count b)).0 s in
    let hd = and_parts (heads b r a) (t r) h in
    elim (or_cases (not (heads b r a)) (u r) ((each_is (λ r. not (heads b r a) || u r) (rule_count b)).0 e r l))
    [ inl k ↦ denied _ k hd.0 | inr k ↦ f r l hd.1 k ]

-- a head that passes a test
pub head_of : (t : ℕ → Bool) (b : Program) (r : ℕ) → headed t (nth_rule b r) ≡ true → (a : ℕ) × (heads b r a ≡ true) × (t a ≡ true)
head_of t b r e = ((nth_rule b r).head, eq-eqb _ _ refl, e)

-- a set that has the head of each rule whose body holds in the answer set, if it has the positive atoms, has the answer set
pub founded : (b : Program) (s : List ℕ) → Answer b s → (keep : ℕ → Bool)
    → ((r a : ℕ) → r < rule_count b → heads b r a ≡ true → holds s (nth_rule b r) ≡ true → each_of keep (nth_rule b r).positives ≡ true → keep a ≡ true)
    → Within (inside s) keep
founded b s A keep step a h =
    (and_parts (inside s a) (keep a) (by_has b.atoms both a (A.least t (by_sheet b.atoms both) closed a h))).1
  where
    both : ℕ → Bool
    both x = inside s x && keep x

    t : List ℕ
    t = sheet_by b.atoms both

    closed : Closed b (reduct b s) (inside t)
    closed r x l hd u e =
        let has-s = each_mono (inside t) (inside s) (λ x k. (and_parts (inside s x) (keep x) (by_has b.atoms both x k)).0) (nth_rule b r).positives e in
        let has-k = each_mono (inside t) keep (λ x k. (and_parts (inside s x) (keep x) (by_has b.atoms both x k)).1) (nth_rule b r).positives e in
        let i = A.closed r x l hd u has-s in
        by_is b.atoms both x (within b.atoms s x A.sheet i) ∙ and_from _ _ i (step r x l hd (and_from _ _ has-s u) has-k)

-- an answer set has the head of a rule whose body holds in it
pub fires : (b : Program) (s : List ℕ) → Answer b s → (r a : ℕ) → r < rule_count b → heads b r a ≡ true → holds s (nth_rule b r) ≡ true → inside s a ≡ true
fires b s A r a l hd h =
    let e = and_parts (each_of (inside s) (nth_rule b r).positives) (reduct b s r) h in A.closed r a l hd e.1 e.0

-- an atom of an answer set is the head of a rule whose body holds in it
pub supported : (b : Program) (s : List ℕ) → Answer b s → (a : ℕ) → inside s a ≡ true → some_rule b a (λ r. holds s (nth_rule b r)) ≡ true
supported b s A a h =
    elim (or_cases (not (a == a)) sup (founded b s A (λ x. not (x == a) || sup) step a h))
    [ inl k ↦ absurd (denied _ k (eq-eqb a a refl)) | inr k ↦ k ]
  where
    sup : Bool
    sup = some_rule b a (λ r. holds s (nth_rule b r))

    step : (r x : ℕ) → r < rule_count b → heads b r x ≡ true → holds s (nth_rule b r) ≡ true → each_of (λ x. not (x == a) || sup) (nth_rule b r).positives ≡ true → (not (x == a) || sup) ≡ true
    step r x l hd k _ = elim (cases_Bool (x == a)) [
      | inl e ↦ or_right _ sup ((some_is (λ r. heads b r a && holds s (nth_rule b r)) (rule_count b)).1 (r, l, and_from _ _ (subst (λ y. heads b r y ≡ true) (eqb-true x a e) hd) k))
      | inr e ↦ or_left _ sup (not_from_false _ e)
    ]
