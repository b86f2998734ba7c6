-- A step's rule, from what the code did: v the walk before, at d levels, w with the page that the operator made, x after the step.
use Rattle.std.proofs.Common.{◌≡◌, ℕ, ◌<◌, ◌≤◌, true, false, List, ◌∷◌, get_or, set, Some, sym, refl, ap, ◌∙◌, subst, inl, inr, arith}
use mathlib.Core.Logic.{∥∥₁_elim}
use native.Mathlib.Bridge.{le_prop}
use Rattle.book.specs.Program.{Program, Valid}
use Rattle.operator.specs.declared.operator.Verdict.TheVariants.{Marked, Clash}
use Rattle.operator.specs.Page.{object_count, Outcome, clash, marked, Meaning, Lawful}
use Rattle.operator.specs.Apply.{Answers}
use Rattle.inquiry.specs.declared.judge.Turn.TheVariants.{Retreat, Choose, Hand}
use Rattle.inquiry.specs.declared.walk.Walk.{Walk}
use Rattle.inquiry.specs.Cursor.{Cursor, sheet_of}
use Rattle.inquiry.specs.Walk.{out, level, at, retreat, found, went, Step, clashes, falls_behind, finds, misses, chooses, Shaped}
use Rattle.inquiry.specs.View.{level_at, levels_of, standing, walk_by, walk_of, OnlyPage}
use Rattle.inquiry.specs.Turns.{Judged, page_of, Derives, Retreats, Chooses, Stepped, InShape}
use Rattle.inquiry.proofs.Bounds.{shaped_deep, shaped_atoms, shaped_room}

-- an answer tells the outcome
made_marked : (o : Outcome) (p q : List ℕ) → Answers o p Marked q → o ≡ marked q
made_marked clash p q a = cc
made_marked (marked r) p q a = ap marked (sym a.1)

made_clash : (o : Outcome) (p q : List ℕ) → Answers o p Clash q → o ≡ clash
made_clash clash p q a = refl
made_clash (marked r) p q a = cc

module _ (b : Program) (v : Walk) (d : ℕ) (e : v.depth ≡ Some d) (good : InShape b v) where
  -- what the shape of a walk that stands gives
  shape : Shaped b (walk_of (object_count b) v) → Shaped b (standing (object_count b) v d)
  shape h = subst (Shaped b) (ap (walk_by (object_count b) v) e) h

  pub low_marks : (i : ℕ) → get_or (page_of b v) i 0 ≤ 2
  low_marks i = ∥∥₁_elim good le_prop (λ h. (shape h).0.marks i)

  module _ (w : Walk) (V : Valid b) (o : OnlyPage v w) where
    pub bounds : (d ≤ 128) × ((i : ℕ) → i < d → (level_at w.levels i).atom < 384)
    bounds =
        let few = V.limited.atoms in (
          ∥∥₁_elim good le_prop (λ h. let r = shaped_deep b (page_of b v) (object_count b) v.levels d (shape h) in omega arith),
          λ i l. ∥∥₁_elim good le_prop (λ h. let r = shaped_atoms b (object_count b) v.levels d (shape h).2 i l in let x = ap (λ t. (level_at t i).atom) o.0 in omega arith),
        )

    pub room : (f : Meaning) (c : Cursor) (a : ℕ) → Lawful f → Derives f b v Marked w → Judged b c (page_of b w) (Choose a) → (d < 128) × (a < 384)
    room f c a L m j =
        let few = V.limited.atoms in
        let lo = j.1.atom in (
          ∥∥₁_elim good le_prop (λ h. let r = shaped_room f b (page_of b v) (page_of b w) (object_count b) v.levels d a (L b V) (shape h) (made_marked _ _ _ m) j.1 in omega arith),
          omega arith,
        )

-- the rules

module _ (f : Meaning) (b : Program) (c : Cursor) (v w x : Walk) (d : ℕ) (o : OnlyPage v w) where
  same_levels : levels_of (object_count b) w.levels d ≡ levels_of (object_count b) v.levels d
  same_levels = ap (λ t. levels_of (object_count b) t d) o.0

  retreats_to : Retreats w d x → walk_of (object_count b) x ≡ retreat (levels_of (object_count b) v.levels d)
  retreats_to r = r (object_count b) ∙ ap retreat same_levels

  pub step_clash : Derives f b v Clash w → Retreats w d x → Stepped f b c v d false x
  step_clash m r = subst (λ y. Step f b c (page_of b v) (levels_of (object_count b) v.levels d) (went y)) (sym (retreats_to r)) (clashes (made_clash _ _ _ m))

  pub step_retreat : Derives f b v Marked w → Judged b c (page_of b w) Retreat → Retreats w d x → Stepped f b c v d false x
  step_retreat m (inl j) r = subst (λ y. Step f b c (page_of b v) (levels_of (object_count b) v.levels d) (went y)) (sym (retreats_to r)) (falls_behind (page_of b w) (made_marked _ _ _ m) j)
  step_retreat m (inr j) r = subst (λ y. Step f b c (page_of b v) (levels_of (object_count b) v.levels d) (went y)) (sym (retreats_to r)) (misses (page_of b w) (made_marked _ _ _ m) j.0 j.1 j.2)

  pub step_choose : (a : ℕ) → Derives f b v Marked w → Judged b c (page_of b w) (Choose a) → Chooses w d a x → Stepped f b c v d false x
  step_choose a m j ch =
      subst (λ y. Step f b c (page_of b v) (levels_of (object_count b) v.levels d) (went y))
      (sym (ch (object_count b) ∙ ap (λ ls. at (set (page_of b w) a 1) (level out a (page_of b w) ∷ ls)) same_levels)) (chooses (page_of b w) a (made_marked _ _ _ m) j.0 j.1)

  pub step_hand : v.depth ≡ Some d → Derives f b v Marked w → Judged b c (page_of b w) Hand → Stepped f b c v d true w
  step_hand e m j =
      subst (λ y. Step f b c (page_of b v) (levels_of (object_count b) v.levels d) (found (sheet_of b (page_of b w)) y))
      (sym (ap (walk_by (object_count b) w) (o.1 ∙ e) ∙ ap (at (page_of b w)) same_levels)) (finds (page_of b w) (made_marked _ _ _ m) j.0 j.1 j.2)
