-- The steps of a call, from a loop that makes them: v the walk before the loop, w now, x after one step more.
use Rattle.std.proofs.Common.{◌≡◌, ℕ, suc, ◌+◌, ◌-◌, ◌<◌, ◌≤◌, true, false, Some, None, sym, ap, ◌∙◌, subst, add-zero, add-one, arith}
use mathlib.Core.Logic.{∥∥₁_map}
use Rattle.book.specs.Program.{Program, Valid}
use Rattle.operator.specs.Page.{object_count, Meaning, Lawful}
use Rattle.inquiry.specs.declared.walk.Walk.{Walk}
use Rattle.inquiry.specs.Cursor.{Cursor, sheet_of}
use Rattle.inquiry.specs.Walk.{Walk as Walks, ended, went, Finding, sheet, none, paused, Run, over, used_up, hands_out, Shaped}
use Rattle.inquiry.specs.View.{levels_of, standing, walk_by, walk_of}
use Rattle.inquiry.specs.Turns.{page_of, Stepped, Ran, InShape}
use Rattle.inquiry.proofs.Shapes.{Went, one_more, joins, step_shaped}

module _ (f : Meaning) (b : Program) (c : Cursor) (v : Walk) where
  -- so many steps went on
  abbrev pub Gone : ℕ → Walk → Type 0
  Gone j w = Went f b c (walk_of (object_count b) v) j (walk_of (object_count b) w)

  -- a run of k steps in all, of which j went on
  after : (k j m n : ℕ) (w x : Walks) (kind : Finding) → Went f b c (walk_of (object_count b) v) j w → Run f b c m w kind n x → j + m ≡ k → Run f b c k (walk_of (object_count b) v) kind (j + n) x
  after k j m n w x kind g r e = rw (← e) (joins f b c (walk_of (object_count b) v) j w m kind n x g r)

  module _ (w : Walk) (j : ℕ) (g : Gone j w) where
    -- the loop stands at a page, or at the walk's end
    at_page : (d : ℕ) → w.depth ≡ Some d → Went f b c (walk_of (object_count b) v) j (standing (object_count b) w d)
    at_page d e = subst (Went f b c (walk_of (object_count b) v) j) (ap (walk_by (object_count b) w) e) g

    module _ (h : Meaning) (same : h ≡ f) (d : ℕ) (x : Walk) (e : w.depth ≡ Some d) where
      pub gone_more : Stepped h b c w d false x → Gone (j + 1) x
      gone_more st = rw add-one (one_more (at_page d e) (rw same at st))

      pub run_found : (k : ℕ) → Stepped h b c w d true x → j < k → Ran f b c v k (sheet (sheet_of b (page_of b x))) (j + 1) x
      run_found k st m = after k j (suc (k - suc j)) 1 _ _ _ (at_page d e) (hands_out (rw same at st)) (omega arith)

    pub run_over : (k n : ℕ) → w.depth ≡ None → j ≤ k → j ≡ n → Ran f b c v k none n w
    run_over k n e m q =
        let l : walk_of (object_count b) w ≡ ended = ap (walk_by (object_count b) w) e in
        subst (λ i. Ran f b c v k none i w) (add-zero j ∙ q) (after k j (k - j) 0 _ _ none g (subst (λ x. Run f b c (k - j) x none 0 x) (sym l) over) (omega arith))

    pub run_paused : (d n : ℕ) → w.depth ≡ Some d → j ≡ n → Ran f b c v n paused n w
    run_paused d n e q =
        let l = ap (walk_by (object_count b) w) e in
        subst (λ i. Ran f b c v n paused i w) (add-zero j ∙ q) (after n j 0 0 _ _ paused g (subst (λ x. Run f b c 0 x paused 0 x) (sym l) used_up) (omega arith))

pub gone_shaped : (f : Meaning) (b : Program) (c : Cursor) (w x : Walk) (d : ℕ) → Valid b → Lawful f → w.depth ≡ Some d → Stepped f b c w d false x → InShape b w → InShape b x
gone_shaped f b c w x d V L e st good = ∥∥₁_map good (λ h. step_shaped f b c (page_of b w) (levels_of (object_count b) w.levels d) (went (walk_of (object_count b) x)) (L b V) (subst (Shaped b) (ap (walk_by (object_count b) w) e) h) st)
