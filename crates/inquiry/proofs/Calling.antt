-- The calls' contracts, from what the code did.
use Rattle.std.proofs.Common.{◌≡◌, ℕ, ◌+◌, ◌≤◌, ◌⊎◌, List, ◌∷◌, ◌++◌, length, take, set, Some, None, sym, refl, ap, ◌∙◌, subst, zero-add, arith}
use mathlib.Core.Logic.{∥∥₁_elim, ∥∥₁_map}
use native.Mathlib.Bridge.{le_prop}
use Rattle.std.proofs.lemmas.List.{take_at}
use Rattle.std.specs.List.{ContainsAt}
use Rattle.book.specs.declared.refusal.Refusal.{Refusal}
use Rattle.book.specs.Program.{Program, Valid}
use Rattle.answer.specs.Fault.{sheet_fault}
use Rattle.operator.specs.Page.{object_count, Meaning, LawfulOn}
use Rattle.inquiry.specs.declared.inquiry.Inquiry.{Inquiry}
use Rattle.inquiry.specs.declared.state.State.{State}
use Rattle.inquiry.specs.Cursor.{Cursor, Above}
use Rattle.inquiry.specs.Walk.{Walk, Finding, paused, Run, over, used_up, hands_out, goes_on}
use Rattle.inquiry.specs.Calls.{State as States, fresh, Call, next, wish, seek, rewind, Said, declined, done, gave, next_fault, wish_fault, call_fault, moved, Response, declines, nexts, wishes, seeks, rewinds, BringsLawful, Event, event, Transcript, called, settled_cursor, settled_wishes}
use Rattle.inquiry.specs.Promise.{Says, most, begins}
use Rattle.inquiry.specs.Register.{handed, complete, goes}
use Rattle.inquiry.specs.View.{walk_of, cursor_of, view}
use Rattle.inquiry.specs.Turns.{InShape}
use Rattle.inquiry.specs.Answered.{held_book, held_state, Answered, Word, Keeps, Lists, Closes}
use Rattle.inquiry.proofs.Faults.{seek_sheet}
use Rattle.inquiry.proofs.Tables.{take_set_any}
use Rattle.inquiry.proofs.Runs.{promise}
use Rattle.inquiry.proofs.Registers.{listed, register, one_register}
use Rattle.inquiry.proofs.Shapes.{transcript_shaped}
use Rattle.inquiry.proofs.Stable.{says_stable}

abbrev pub Past : Program → States → Type 0
Past b s = (es : List Event) × Transcript b es s

pub past_shaped : (b : Program) (s : State) → ∥ Past b (view b s) ∥₁ → InShape b s.walk
past_shaped b s h = ∥∥₁_map h (λ p. transcript_shaped b p.0 (view b s) p.1)

pub past_more : (b : Program) (s t : States) (c : Call) (r : Said) → BringsLawful b c → Response b s c r t → ∥ Past b s ∥₁ → ∥ Past b t ∥₁
past_more b s t c r l x h = ∥∥₁_map h (λ p. (event c r ∷ p.0, called p.1 l x))

-- a response makes a contract's part
pub answered : (x y : Inquiry) (c : Call) (r : Said) → y.book ≡ x.book → BringsLawful (held_book x) c → Response (held_book x) (held_state x) c r (held_state y) → Answered x c r y
answered x y c r e l h = record { response = h; book = e; longer = λ es tr. called tr l h; promised = λ es tr. promise (held_book x) (event c r ∷ es) (held_state y) (called tr l h) }

-- a call that the code's test declines, over its count k of atoms
pub refused : (x : Inquiry) (c : Call) (f : Refusal) (k : ℕ) → BringsLawful (held_book x) c → k ≡ (held_book x).atoms → Some f ≡ call_fault k c → Answered x c (declined f) x
refused x c f k l e h = answered x x c (declined f) refl l (declines (rw e at (sym h)))

-- the accepted calls

abbrev state_of : Cursor → List ℕ → Walk → States
state_of c w v = record { cursor = c; wishes = w; walk = v }

pub next_responds : (f : Meaning) (b : Program) (s t : State) (k : ℕ) → k ≡ b.atoms → (a room : ℕ) (x : Finding) (n : ℕ) → None ≡ next_fault k a room
    → Run f b (cursor_of b.atoms s.cursor) a (walk_of (object_count b) s.walk) x n (walk_of (object_count b) t.walk) → cursor_of b.atoms t.cursor ≡ moved (cursor_of b.atoms s.cursor) x → t.wishes ≡ s.wishes
    → Response b (view b s) (next f a room) (gave x n) (view b t)
next_responds f b s t k en a room x n e run ec ew =
    subst (Response b (view b s) (next f a room) (gave x n))
    (ap (λ y. state_of y (take b.atoms s.wishes) (walk_of (object_count b) t.walk)) (sym ec) ∙ ap (λ w. state_of (cursor_of b.atoms t.cursor) (take b.atoms w) (walk_of (object_count b) t.walk)) (sym ew))
    (nexts (rw en at (sym e)) run)

module _ (b : Program) (s t : State) (k : ℕ) (e : k ≡ b.atoms) where
  pub wish_responds : (a v : ℕ) → None ≡ wish_fault k a v → view b t ≡ fresh b (cursor_of b.atoms s.cursor) (take b.atoms (set s.wishes a v)) → Response b (view b s) (wish a v) done (view b t)
  wish_responds a v f h = subst (Response b (view b s) (wish a v) done) (sym (h ∙ ap (fresh b (cursor_of b.atoms s.cursor)) (take_set_any b.atoms s.wishes a v))) (wishes (rw e at (sym f)))

  pub seek_responds : (x y z : List ℕ) → None ≡ sheet_fault k x → y ≡ x → view b t ≡ fresh b (Some (take b.atoms (y ++ z))) (take b.atoms s.wishes) → Response b (view b s) (seek x) done (view b t)
  seek_responds x y z f d h =
      let f : sheet_fault b.atoms x ≡ None = rw e at (sym f) in
      let l : length y ≡ b.atoms = rw d (seek_sheet b.atoms x f).long in
      subst (Response b (view b s) (seek x) done) (sym (h ∙ ap (λ c. fresh b (Some c) (take b.atoms s.wishes)) (take_at y z b.atoms l ∙ d))) (seeks f)

pub rewind_responds : (b : Program) (s t : State) → view b t ≡ fresh b None (take b.atoms s.wishes) → Response b (view b s) rewind done (view b t)
rewind_responds b s t e = subst (Response b (view b s) rewind done) (sym e) rewinds

-- what next promises besides

run_steps : (f : Meaning) (b : Program) (c : Cursor) (k : ℕ) (u : Walk) (x : Finding) (n : ℕ) (v : Walk) → Run f b c k u x n v → n ≤ k
run_steps f b c k u x n v over = omega arith
run_steps f b c k u x n v used_up = omega arith
run_steps f b c k u x n v (hands_out st) = omega arith
run_steps f b c k u x n v (goes_on {k = j} {n = m} {w = w} st more) = let z = run_steps f b c j w x m v more in omega arith

next_steps : (f : Meaning) (b : Program) (s : States) (k room : ℕ) (x : Finding) (n : ℕ) (t : States) → Response b s (next f k room) (gave x n) t → n ≤ k
next_steps f b s k room x n t (nexts {w = w} e run) = run_steps f b s.cursor k s.walk x n w run

module _ (f : Meaning) (b : Program) (s t : States) (k room : ℕ) (x : Finding) (n : ℕ) (L : LawfulOn b f) (h : Response b s (next f k room) (gave x n) t) where
  pub next_keeps : Keeps b s k x n
  next_keeps es tr = (promise b es s tr).kept f L k room x n t h

  -- of the inquiry's own cursor and wishes
  own_says : Past b s → Says b s.cursor s.wishes x
  own_says p =
      let P = promise b p.0 s p.1 in
      subst (λ c. Says b c s.wishes x) (sym P.cursor) (subst (λ w. Says b (settled_cursor p.0) w x) (sym P.wishes) (next_keeps p.0 p.1).says)

  own_bound : Past b s → n ≤ most b s.wishes
  own_bound p = subst (λ w. n ≤ most b w) (sym (promise b p.0 s p.1).wishes) (subst (λ m. m ≤ most b (settled_wishes b p.0)) (zero-add n) ((next_keeps p.0 p.1).bounded 0 0 begins))

  own_brings : Past b s → most b s.wishes ≤ k → x ≡ paused → ⊥
  own_brings p l = (next_keeps p.0 p.1).brings 0 0 begins (subst (λ w. most b w ≤ 0 + k) (promise b p.0 s p.1).wishes (subst (λ m. most b s.wishes ≤ m) (sym (zero-add k)) l))

  pub next_word : Valid b → ∥ Past b s ∥₁ → Word b s k x n
  next_word V past = record {
    says = says_stable b s.cursor s.wishes x V (∥∥₁_map past own_says);
    bounded = ∥∥₁_elim past le_prop own_bound;
    allowed = next_steps f b s k room x n t h;
    brings = λ l e. ∥∥₁_elim past (λ y z. absurd y) (λ p. own_brings p l e);
  }

  pub next_lists : Lists b s x
  next_lists es fs xs l tr =
      let g = (listed b es (event (next f k room) (gave x n) ∷ fs) (xs ++ handed x) t (goes l) (called tr L h)).0 in
      let e : settled_cursor (event (next f k room) (gave x n) ∷ fs) ≡ moved s.cursor x = ap (λ c. moved c x) (sym (promise b fs s tr).cursor) in
      record { ascending = g.ascending; each = g.each; every = λ y u. subst (λ d. ContainsAt (xs ++ handed x) y ⊎ Above d y) e (g.every y u) }

  pub next_closes : Closes b s x
  next_closes e es fs xs l tr =
      let c = complete l (called tr L (subst (λ y. Response b s (next f k room) (gave y n) t) e h)) in
      (register b (settled_cursor es) (settled_wishes b es) xs c, λ ys d. one_register b (settled_cursor es) (settled_wishes b es) ys xs d c)
