-- The loop that writes the page or finds the clash.
use Rattle.std.proofs.Common.{◌≡◌, ℕ, ◌+◌, ◌<◌, ◌≤◌, Bool, true, false, cond, ◌&&◌, ◌||◌, eqb, ◌≢◌, List, length, get_or, take, set, Some, None, Option, sym, refl, ap, ◌∙◌, subst, inl, inr, arith, below_more}
use Rattle.std.proofs.lemmas.List.{get_or-set_same, get_or-set_other, get_or-take, length-take-le}
use Rattle.std.proofs.lemmas.Bool.{and_parts, and_from, cases_Bool}
use Rattle.book.specs.Program.{Program}
use Rattle.answer.specs.Tests.{some_below}
use Rattle.operator.specs.Page.{object_count, Page, clash, marked}
use Rattle.operator.specs.Operator.{Derived, gets_in, gets_out, gets, marks_of}
use Rattle.std.proofs.lemmas.List.FromFn.{fill_by_all}
use Rattle.operator.specs.Booleans.{some_is}
use Rattle.operator.specs.Apply.{Answers}
use Rattle.operator.specs.Notes.{side, code, tests}
use Rattle.operator.specs.declared.notes.Notes.{Notes}
use Rattle.operator.specs.declared.operator.Verdict.TheVariants.{Marked, Clash}

marked_from : (b : Program) (p q : List ℕ) (d : Derived) → length q ≡ object_count b → ((i : ℕ) → i < object_count b → get_or q i 0 ≡ gets b p d i)
    → ((i : ℕ) → i < object_count b → gets_in b p d i ≡ true → gets_out b p d i ≡ true → ⊥) → marks_of b p d ≡ marked q
marked_from b p q d l e n =
    elim (cases_Bool (some_below (λ i. gets_in b p d i && gets_out b p d i) (object_count b))) [
      | inl h ↦
          let (i, k, w) = (some_is (λ i. gets_in b p d i && gets_out b p d i) (object_count b)).0 h in
          let v = and_parts (gets_in b p d i) _ w in
          absurd (n i k v.0 v.1)
      | inr h ↦ rw (h, marks_of) (ap marked (sym (fill_by_all (gets b p d) q (object_count b) 0 l e)))
    ]

clash_from : (b : Program) (p : List ℕ) (d : Derived) (i : ℕ) → i < object_count b → gets_in b p d i ≡ true → gets_out b p d i ≡ true
    → marks_of b p d ≡ clash
clash_from b p d i l x y =
    rw ((some_is (λ i. gets_in b p d i && gets_out b p d i) (object_count b)).1 (i, l, and_from _ _ x y), marks_of) refl

-- the mark that object i is to have, both marks it has and gets included
abbrev pub got : Program → List ℕ → Derived → ℕ → Option ℕ
got b p d i = code (gets_in b p d i) (gets_out b p d i)

code_both : (x y : Bool) → code x y ≡ None → (x ≡ true) × (y ≡ true)
code_both true true e = (refl, refl)
code_both true false e = cc
code_both false true e = cc
code_both false false e = cc

code_one : (x y : Bool) (m : ℕ) → code x y ≡ Some m → (m ≡ cond x 2 (cond y 1 0)) × (x ≡ true → y ≡ true → ⊥)
code_one true true m e = cc
code_one true false m e = (cc, λ f g. cc)
code_one false true m e = (cc, λ f g. cc)
code_one false false m e = (cc, λ f g. cc)

-- what the code gets of its flags
pub got_is : (b : Program) (p : List ℕ) (t : Notes) (n i : ℕ) (r : Option ℕ) → n ≡ b.atoms
    → r ≡ code (eqb (get_or p i 0) 2 || side n (get_or t.atom_in) (get_or t.body_in) i) (eqb (get_or p i 0) 1 || side n (get_or t.atom_out) (get_or t.body_out) i)
    → r ≡ got b p (tests t) i
got_is b p t n i r e h =
    subst (λ n. r ≡ code (eqb (get_or p i 0) 2 || side n (get_or t.atom_in) (get_or t.body_in) i) (eqb (get_or p i 0) 1 || side n (get_or t.atom_out) (get_or t.body_out) i)) e h

-- the first i objects are written
abbrev pub Written : Program → List ℕ → Derived → List ℕ → ℕ → Type 0
Written b p d q i = (k : ℕ) → k < i → got b p d k ≡ Some (get_or q k 0)

pub written_more : (b : Program) (p : List ℕ) (d : Derived) (q : List ℕ) (i m : ℕ) → i < length q → Written b p d q i → Some m ≡ got b p d i
    → Written b p d (set q i m) (i + 1)
written_more b p d q i m l h e =
    below_more _ _
    (λ k g. let ne : k ≢ i = omega arith in h k g ∙ ap Some (sym (get_or-set_other q i k m 0 ne)))
    (sym e ∙ ap Some (sym (get_or-set_same q i m 0 l)))

pub clashed : (b : Program) (p : List ℕ) (d : Derived) (i : ℕ) → i < object_count b → None ≡ got b p d i → Answers (marks_of b p d) p Clash p
clashed b p d i l e =
    let k = code_both (gets_in b p d i) (gets_out b p d i) (sym e) in
    subst (λ o. Answers o p Clash p) (sym (clash_from b p d i l k.0 k.1)) (refl, refl)

pub finished : (b : Program) (p : List ℕ) (d : Derived) (q r : List ℕ) → Page b p → length p ≤ length q → Written b p d q (object_count b)
    → r ≡ take (length p) q → Answers (marks_of b p d) p Marked r
finished b p d q r G l h e =
    let u = G.long in
    let m = marked_from b p (take (length p) q) d (length-take-le (length p) q l ∙ u) (λ i k. get_or-take (length p) q i 0 (omega arith) ∙ (code_one (gets_in b p d i) (gets_out b p d i) _ (h i k)).0) (λ i k. (code_one (gets_in b p d i) (gets_out b p d i) _ (h i k)).1) in
    subst (λ o. Answers o p Marked r) (sym m) (refl, e)
