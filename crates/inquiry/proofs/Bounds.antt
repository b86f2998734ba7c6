-- What the code's bounds take from the shape of a walk.
use Rattle.std.proofs.Common.{◌≡◌, ℕ, zero, suc, ◌<◌, ◌≤◌, List, length, set, refl, ap, inl, inr, arith}
use Rattle.std.proofs.lemmas.List.{get_or-set_same}
use Rattle.std.proofs.lemmas.Bool.{cases_eq}
use Rattle.book.specs.Program.{Program}
use Rattle.operator.specs.Page.{Meaning, LawfulOn, marked}
use Rattle.operator.specs.Pages.{grows_set, opens_le, opens_lt}
use Rattle.inquiry.specs.declared.walk.Level.{Level}
use Rattle.inquiry.specs.Cursor.{Lowest}
use Rattle.inquiry.specs.Walk.{at, ShapedLevels, Shaped}
use Rattle.inquiry.specs.View.{level_at, levels_of}
use Rattle.inquiry.proofs.Steps.{followed}

levels_long : (z : ℕ) (t : List Level) (d : ℕ) → length (levels_of z t d) ≡ d
levels_long z t zero = refl
levels_long z t (suc d) = ap suc (levels_long z t d)

pub shaped_deep : (b : Program) (p : List ℕ) (z : ℕ) (t : List Level) (d : ℕ) → Shaped b (at p (levels_of z t d)) → d ≤ b.atoms
shaped_deep b p z t d h = let e = levels_long z t d in let r = h.1 in omega arith

pub shaped_atoms : (b : Program) (z : ℕ) (t : List Level) (k : ℕ) → ShapedLevels b (levels_of z t k) → (d : ℕ) → d < k → (level_at t d).atom < b.atoms
shaped_atoms b z t zero h d l = absurd (omega arith)
shaped_atoms b z t (suc k) h d l = elim (cases_eq d k) [ inl e ↦ rw e h.1.atom | inr e ↦ shaped_atoms b z t k h.3 d (omega arith) ]

pub shaped_room : (f : Meaning) (b : Program) (p q : List ℕ) (z : ℕ) (t : List Level) (d a : ℕ) → LawfulOn b f → Shaped b (at p (levels_of z t d)) → f b p ≡ marked q → Lowest b.atoms q a → d < b.atoms
shaped_room f b p q z t d a L h e lo =
    let A = followed f b p q L h.0 e in
    let l = opens_le b.atoms p q A.growth in
    let k : a < length q = (let u = A.page.long in let y = lo.atom in omega arith) in
    let g = get_or-set_same q a 1 0 k in
    let s = opens_lt b.atoms q (set q a 1) (grows_set q a 1 lo.free) a lo.atom lo.free (omega arith) in
    let r = h.1 in let y = levels_long z t d in omega arith
