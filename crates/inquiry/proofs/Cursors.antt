-- The order of sheets beside cursors and pages.
use Rattle.std.proofs.Common.{◌≡◌, ℕ, ◌+◌, ◌<◌, List, length, get_or, Some, None, inl, inr, arith}
use Rattle.std.proofs.lemmas.Bool.{cases_order}
use Rattle.answer.specs.Answer.{Sheet}
use Rattle.answer.specs.Order.{Smaller}
use Rattle.answer.proofs.StrictOrder.{marked_low, trichotomy, strict_total}
use Rattle.inquiry.specs.Cursor.{Cursor, Above, Marks, Behind}

pub above_later : (c : Cursor) (s x : List ℕ) → Above c s → Smaller s x → Above c x
above_later None s x h l = tt
above_later (Some c) s x h l = (strict_total 0).transitive c s x h l

abbrev pub SheetCursor : ℕ → Cursor → Type 0
SheetCursor n None = Unit {0}
SheetCursor n (Some c) = Sheet n c

-- the sheet has each marked atom as the page marks it
abbrev pub Values : ℕ → List ℕ → List ℕ → Type 0
Values n p x = (a : ℕ) → a < n → 0 < get_or p a 0 → get_or x a 0 + 1 ≡ get_or p a 0

-- no sheet that agrees with a page behind the cursor is above the cursor
pub behind_none : (n : ℕ) (q x : List ℕ) (c : Cursor) → length x ≡ n → Values n q x → Behind n q c → Above c x → ⊥
behind_none n q x None hx f h u = h
behind_none n q x (Some c) hx f (inr m) u =
    let z = u.zero in let y = u.one in
    let l = marked_low x u.at n hx (omega arith) in
    let e = m u.at l in let v = f u.at l (omega arith) in omega arith
behind_none n q x (Some c) hx f (inl d) u =
    let z = u.zero in let y = u.one in let o = d.out in let w = d.one in
    let l = marked_low x u.at n hx (omega arith) in
    elim (cases_order u.at d.at) [
      | inl e ↦ let t : get_or c d.at 0 ≡ 0 = rw (← e) z in omega arith
      | inr (inl e) ↦ let t = d.same u.at e in let v = f u.at l (omega arith) in omega arith
      | inr (inr e) ↦ let t = u.same d.at e in let v = f d.at d.atom (omega arith) in omega arith
    ]

-- the sheet of a full page that is not behind the cursor is above it
pub not_behind_above : (n : ℕ) (q s : List ℕ) (c : Cursor) → Marks n q s → Sheet n s → SheetCursor n c → (Behind n q c → ⊥) → Above c s
not_behind_above n q s None sh hs hc nb = tt
not_behind_above n q s (Some c) sh hs hc nb = elim (trichotomy n s c hs hc) [
  | inl e ↦ absurd (nb (inr (rw (← e) sh)))
  | inr (inl l) ↦ let z = l.zero in let o = l.one in let r = marked_low c l.at n hc.long (omega arith) in
      absurd (nb (inl (record { at = l.at; atom = r; same = λ i h. let m = sh i (omega arith) in let e = l.same i h in omega arith; out = let m = sh l.at r in omega arith; one = o })))
  | inr (inr l) ↦ l
]
