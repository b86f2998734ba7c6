-- Flags noted rule by rule are the tests over the rules, and flags that agree with the tests make the same outcome.
use Rattle.std.proofs.Common.{◌≡◌, ℕ, zero, suc, ◌+◌, ◌<◌, Bool, true, false, not, cond, ◌&&◌, ◌||◌, eqb, List, map, length, get_or, set, sym, refl, ap, ◌∙◌, subst, ap₂, inl, inr, zero-add, add-one, arith, get_or-set_same, get_or-set_other}
use Rattle.std.proofs.lemmas.Bool.{eq-eqb, ne_eqb, cases_eq}
use Rattle.std.specs.List.{range_with_len}
use Rattle.std.proofs.lemmas.List.FromFn.{fill_by_all, length-map-range_with_len, get_or-map-range_with_len}
use Rattle.std.proofs.lemmas.List.Edits.{fill_by_more}
use Rattle.book.specs.Program.{Program, rule_count}
use Rattle.answer.specs.Tests.{each_below, some_below}
use Rattle.operator.specs.Page.{object_count, is_in, is_out, clash, marked, Outcome}
use Rattle.operator.specs.Operator.{Derived, gets_in, gets_out, gets, marks_of}
use Rattle.operator.specs.Deriving.{objects}
use Rattle.operator.specs.declared.notes.Notes.{Notes}
use Rattle.operator.specs.declared.operator.Verdict.{Verdict}
use Rattle.operator.specs.Apply.{Answers}
use Rattle.operator.specs.Notes.{tests, Noted}

-- one rule more
pub some_next : (x y z : Bool) (t : ℕ → Bool) (k : ℕ) → y ≡ (z || x) → x ≡ some_below t k → z ≡ t k → y ≡ some_below t (k + 1)
some_next x y z t k e f g = rw add-one (e ∙ ap₂ ◌||◌ g f)

pub each_next : (x y z : Bool) (t : ℕ → Bool) (k : ℕ) → y ≡ (z && x) → x ≡ each_below t k → z ≡ t k → y ≡ each_below t (k + 1)
each_next x y z t k e f g = rw add-one (e ∙ ap₂ ◌&&◌ g f)

pub fill_next : (f : ℕ → Bool) (xs : List Bool) (i : ℕ) (v : Bool) → i < length xs → ((k : ℕ) → k < i → get_or xs k false ≡ f k) → v ≡ f i → (k : ℕ) → k < i + 1 → get_or (set xs i v) k false ≡ f k
fill_next f xs i v l h e k g = subst (λ v. get_or (set xs i v) k false ≡ f k) (sym e) (fill_by_more f xs i false l h k g)

or_turned : (x v : Bool) → (x || v) ≡ (v || x)
or_turned true true = refl
or_turned true false = refl
or_turned false true = refl
or_turned false false = refl

and_turned : (x v : Bool) → (x && v) ≡ (v && x)
and_turned true true = refl
and_turned true false = refl
and_turned false true = refl
and_turned false false = refl

-- a flag that is set where v is, and one that stays where v is
pub flag_or : (xs : List Bool) (h a : ℕ) (v : Bool) → h < length xs → get_or (set xs h (get_or xs h false || v)) a false ≡ ((eqb a h && v) || get_or xs a false)
flag_or xs h a v l =
    elim (cases_eq a h) [
      | inl e ↦ rw (e, eq-eqb h h refl) (get_or-set_same xs h _ false l ∙ or_turned _ v)
      | inr e ↦ rw (ne_eqb a h e) (get_or-set_other xs h a _ false e)
    ]

pub flag_and : (xs : List Bool) (h a : ℕ) (v : Bool) → h < length xs → get_or (set xs h (get_or xs h false && v)) a false ≡ ((not (eqb a h) || v) && get_or xs a false)
flag_and xs h a v l =
    elim (cases_eq a h) [
      | inl e ↦ rw (e, eq-eqb h h refl) (get_or-set_same xs h _ false l ∙ and_turned _ v)
      | inr e ↦ rw (ne_eqb a h e) (get_or-set_other xs h a _ false e)
    ]

some_same : (t u : ℕ → Bool) (n : ℕ) → ((i : ℕ) → i < n → t i ≡ u i) → some_below t n ≡ some_below u n
some_same t u zero h = refl
some_same t u (suc n) h = ap₂ ◌||◌ (h n (omega arith)) (some_same t u n (λ i l. h i (omega arith)))

map_same : (f g : ℕ → ℕ) (n : ℕ) → ((i : ℕ) → i < n → f i ≡ g i) → map f (range_with_len 0 n) ≡ map g (range_with_len 0 n)
map_same f g n h = fill_by_all g (map f (range_with_len 0 n)) n 0 (length-map-range_with_len f 0 n) (λ k l. get_or-map-range_with_len f 0 n k k 0 l (zero-add k) ∙ h k l)

module _ (b : Program) (p : List ℕ) (d e : Derived) (ai : (a : ℕ) → a < b.atoms → d.atom_in a ≡ e.atom_in a) (ao : (a : ℕ) → a < b.atoms → d.atom_out a ≡ e.atom_out a) (bi : (r : ℕ) → r < rule_count b → d.body_in r ≡ e.body_in r) (bo : (r : ℕ) → r < rule_count b → d.body_out r ≡ e.body_out r) where
  ins : (i : ℕ) → i < object_count b → gets_in b p d i ≡ gets_in b p e i
  ins i l = ap (λ x. is_in p i || x) (objects b (λ x y. x ≡ y) d.atom_in d.body_in e.atom_in e.body_in ai bi i l)

  outs : (i : ℕ) → i < object_count b → gets_out b p d i ≡ gets_out b p e i
  outs i l = ap (λ x. is_out p i || x) (objects b (λ x y. x ≡ y) d.atom_out d.body_out e.atom_out e.body_out ao bo i l)

  pub same_marks : marks_of b p d ≡ marks_of b p e
  same_marks = ap₂ (λ (c : Bool) (q : List ℕ). elim c as (λ _. Outcome) [ true ↦ clash | false ↦ marked q ])
      (some_same _ _ (object_count b) (λ i l. ap₂ ◌&&◌ (ins i l) (outs i l)))
      (map_same (gets b p d) (gets b p e) (object_count b) (λ i l. ap₂ (λ x y. cond x 2 (cond y 1 0)) (ins i l) (outs i l)))

pub noted_answers : (b : Program) (p : List ℕ) (t : Notes) (d : Derived) (v : Verdict) (q : List ℕ) → Answers (marks_of b p (tests t)) p v q → Noted b (rule_count b) t d → Answers (marks_of b p d) p v q
noted_answers b p t d v q h n = subst (λ o. Answers o p v q) (same_marks b p (tests t) d n.atom_in n.atom_out n.body_in n.body_out) h
