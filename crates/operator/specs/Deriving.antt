-- What is derived soundly makes a lawful operator.
use Rattle.std.specs.Prelude.{◌≡◌, ℕ, zero, suc, ◌-◌, ◌<◌, ◌≤◌, Bool, true, false, cond, ◌&&◌, ◌||◌, List, map, length, ◌==◌, ◌≢◌, nat_lt, slice_index}
use Rattle.std.proofs.Math.Path.{refl}
use Rattle.std.proofs.Common.{◌∙◌, inl, inr, zero-add, arith, lit≤}
use Rattle.std.specs.List.{range_with_len}
use Rattle.std.proofs.lemmas.List.{get_or_past}
use Rattle.std.proofs.lemmas.List.FromFn.{length-map-range_with_len, get_or-map-range_with_len}
use Rattle.std.proofs.lemmas.Bool.{true≢false, and_parts, or_cases, cases_Bool, cases_lt, ltb-true, ltb-false, both_ways, eqb-true}
use Rattle.book.specs.Program.{Program, rule_count, nth_rule, Valid}
use Rattle.answer.specs.Tests.{some_below}
use Rattle.answer.specs.Answer.{inside, holds, Answer}
use Rattle.operator.specs.Page.{object_count, Page, is_out, is_in, object, true_in, Fits, Grows, clash, marked, Follows, Allowed, Lawful}
use Rattle.operator.specs.Operator.{Derived, gets_in, gets_out, gets, marks_of, derive}
use Rattle.operator.specs.Booleans.{some_is}

-- an answer set that fits a page
pub record Given (b : Program) (p s : List ℕ) : Type 0 where
  pub valid : Valid b
  pub page : Page b p
  pub answer : Answer b s
  pub fits : Fits b p s

-- what is derived is true of the set
pub record Justified (b : Program) (s : List ℕ) (d : Derived) : Type 0 where
  pub atom_in : (a : ℕ) → a < b.atoms → d.atom_in a ≡ true → inside s a ≡ true
  pub atom_out : (a : ℕ) → a < b.atoms → d.atom_out a ≡ true → inside s a ≢ true
  pub body_in : (r : ℕ) → r < rule_count b → d.body_in r ≡ true → holds s (nth_rule b r) ≡ true
  pub body_out : (r : ℕ) → r < rule_count b → d.body_out r ≡ true → holds s (nth_rule b r) ≢ true

-- objects are atoms and bodies
pub objects : (b : Program) (P : Bool → Bool → Type 0) (f f' g g' : ℕ → Bool) → ((a : ℕ) → a < b.atoms → P (f a) (g a)) → ((r : ℕ) → r < rule_count b → P (f' r) (g' r)) → (i : ℕ) → i < object_count b → P (object b f f' i) (object b g g' i)
objects b P f f' g g' at' of' i l = go (nat_lt i b.atoms) refl
  where
    go : (c : Bool) → nat_lt i b.atoms ≡ c → P (elim c [ true ↦ f i | false ↦ f' (i - b.atoms) ]) (elim c [ true ↦ g i | false ↦ g' (i - b.atoms) ])
    go true e = at' i (ltb-true _ _ e)
    go false e = let k = ltb-false i b.atoms e in of' (i - b.atoms) (omega arith)

-- numbers and tests behind a mark
mark_kept : (m : ℕ) (x y : Bool) → m ≤ 2 → 0 < m → ((m == 2 || x) && (m == 1 || y)) ≡ false → cond (m == 2 || x) 2 (cond (m == 1 || y) 1 0) ≡ m
mark_kept zero x y u l e = absurd (omega arith)
mark_kept (suc zero) true y u l e = absurd (true≢false e)
mark_kept (suc zero) false y u l e = refl
mark_kept (suc (suc zero)) x y u l e = refl
mark_kept (suc (suc (suc m))) x y u l e = absurd (omega arith)

mark_in : (x y : Bool) → (cond x 2 (cond y 1 0) == 2) ≡ true → x ≡ true
mark_in true y e = refl
mark_in false true e = e
mark_in false false e = e

mark_out : (x y : Bool) → (cond x 2 (cond y 1 0) == 1) ≡ true → y ≡ true
mark_out true true e = refl
mark_out true false e = e
mark_out false true e = refl
mark_out false false e = e

mark_small : (x y : Bool) → cond x 2 (cond y 1 0) ≤ 2
mark_small true y = lit≤ tt
mark_small false true = lit≤ tt
mark_small false false = lit≤ tt

module _ (b : Program) (p s : List ℕ) (d : Derived) (fits : Fits b p s) (j : Justified b s d) where
  pub got_in : (i : ℕ) → i < object_count b → gets_in b p d i ≡ true → true_in b s i ≡ true
  got_in i l e = elim (or_cases (is_in p i) (object b d.atom_in d.body_in i) e) [
    | inl h ↦ fits.has i h
    | inr h ↦ objects b (λ x y. x ≡ true → y ≡ true) d.atom_in d.body_in (inside s) (λ r. holds s (nth_rule b r)) j.atom_in j.body_in i l h
  ]

  pub got_out : (i : ℕ) → i < object_count b → gets_out b p d i ≡ true → true_in b s i ≢ true
  got_out i l e = elim (or_cases (is_out p i) (object b d.atom_out d.body_out i) e) [
    | inl h ↦ fits.lacks i h
    | inr h ↦ objects b (λ x y. x ≡ true → y ≢ true) d.atom_out d.body_out (inside s) (λ r. holds s (nth_rule b r)) j.atom_out j.body_out i l h
  ]

module _ (b : Program) (p : List ℕ) (d : Derived) (page : Page b p) (just : (s : List ℕ) → Answer b s → Fits b p s → Justified b s d) where
  new : List ℕ
  new = map (gets b p d) (range_with_len 0 (object_count b))

  new_is : (i : ℕ) → i < object_count b → slice_index new i ≡ gets b p d i
  unfolding new
  new_is i l = get_or-map-range_with_len (gets b p d) 0 (object_count b) i i 0 l (zero-add i)

  new_long : length new ≡ object_count b
  unfolding new
  new_long = length-map-range_with_len (gets b p d) 0 (object_count b)

  -- a mark of the new page stands within it
  new_within : (i v : ℕ) → (slice_index new i == suc v) ≡ true → i < object_count b
  new_within i v h = elim (cases_lt i (object_count b)) [ inl l ↦ l | inr l ↦ let e = get_or_past new i 0 (omega (arith, new_long)) in let k = eqb-true _ _ h in absurd (omega arith) ]

  follows : some_below (λ i. gets_in b p d i && gets_out b p d i) (object_count b) ≡ false → Follows b p new
  follows none = record { page = record { long = new_long; marks = small }; growth = kept; sound = λ s A F. record { has = λ i h. got_in b p s d F (just s A F) i (new_within i 1 h) (mark_in _ _ (rw (new_is i (new_within i 1 h)) at h)); lacks = λ i h. got_out b p s d F (just s A F) i (new_within i 0 h) (mark_out (gets_in b p d i) _ (rw (new_is i (new_within i 0 h)) at h)) } }
    where
      small : (i : ℕ) → slice_index new i ≤ 2
      small i = elim (cases_lt i (object_count b)) [ inl l ↦ rw (new_is i l) (mark_small (gets_in b p d i) (gets_out b p d i)) | inr l ↦ rw (get_or_past new i 0 (rw new_long l)) (lit≤ tt) ]

      kept : Grows p new
      kept i l = elim (cases_lt i (object_count b)) [
        | inl k ↦ new_is i k ∙ mark_kept (slice_index p i) _ _ (page.marks i) l (calm i k)
        | inr k ↦ let e = get_or_past p i 0 (omega (arith, page.long)) in absurd (omega arith)
      ]
        where
          calm : (i : ℕ) → i < object_count b → (gets_in b p d i && gets_out b p d i) ≡ false
          calm i k = elim (cases_Bool (gets_in b p d i && gets_out b p d i)) [ inl e ↦ absurd (both_ways _ none ((some_is (λ i. gets_in b p d i && gets_out b p d i) (object_count b)).1 (i, k, e))) | inr e ↦ e ]

  marks_allowed : Allowed b p (marks_of b p d)
  unfolding new
  marks_allowed = go (some_below (λ i. gets_in b p d i && gets_out b p d i) (object_count b)) refl
    where
      go : (c : Bool) → some_below (λ i. gets_in b p d i && gets_out b p d i) (object_count b) ≡ c → Allowed b p (elim c [ true ↦ clash | false ↦ marked new ])
      go true e = λ s A F.
          let (i, l, h) = (some_is (λ i. gets_in b p d i && gets_out b p d i) (object_count b)).0 e in
          let k = and_parts (gets_in b p d i) (gets_out b p d i) h in
          got_out b p s d F (just s A F) i l k.1 (got_in b p s d F (just s A F) i l k.0)
      go false e = follows e

pub derive_lawful : (d : Program → List ℕ → Derived) → ((b : Program) (p s : List ℕ) → Given b p s → Justified b s (d b p)) → Lawful (derive d)
derive_lawful d j b P p G = marks_allowed b p (d b p) G (λ s A F. j b p s (record { valid = P; page = G; answer = A; fits = F }))
