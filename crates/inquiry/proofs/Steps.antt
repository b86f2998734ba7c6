-- What a step keeps: every wanted sheet fits the page or waits at a level.
use Rattle.std.proofs.Common.{◌≡◌, ℕ, ◌<◌, ◌⊎◌, List, [], ◌∷◌, length, get_or, set, Some, sym, refl, ◌∙◌, inl, inr, ⊎_elim, arith, lit≤}
use Rattle.std.proofs.lemmas.List.{get_or-set_same}
use Rattle.std.proofs.lemmas.Bool.{cases_eq}
use Rattle.book.specs.Program.{Program}
use Rattle.answer.specs.Answer.{Sheet}
use Rattle.answer.specs.Order.{Smaller}
use Rattle.answer.proofs.StrictOrder.{marked_low}
use Rattle.operator.specs.Page.{Page, Fits, Grows, Meaning, Follows, Allowed, LawfulOn, clash, marked}
use Rattle.operator.specs.Pages.{grows_trans, page_set, grows_set}
use Rattle.inquiry.specs.Cursor.{Cursor, Lowest, sheet_of}
use Rattle.inquiry.specs.Walk.{Level, level, Side, out, inn, mark, Walk, ended, at, retreat, Move, found, went, Step, clashes, falls_behind, finds, misses, chooses, sheet}
use Rattle.inquiry.specs.Promise.{Wanted, Says}
use Rattle.inquiry.proofs.Cursors.{SheetCursor, above_later, Values, behind_none, not_behind_above}
use Rattle.inquiry.proofs.Fitting.{fit_values, fits_atom, full_marks, same_sheet}

-- a page, and the levels that led to it from the wishes
abbrev pub Led : Program → List ℕ → List ℕ → List Level → Type 0
Led b w p [] = Grows w p
Led b w p (level side a q ∷ ls) = Page b q × Lowest b.atoms q a × Grows (set q a (mark side)) p × Led b w q ls

-- the set fits the in side of a level that tries out
abbrev pub Waits : Program → List Level → List ℕ → Type 0
Waits b [] x = ⊥
Waits b (level out a q ∷ ls) x = Fits b (set q a 2) x ⊎ Waits b ls x
Waits b (level inn a q ∷ ls) x = Waits b ls x

pub record Covers (b : Program) (c : Cursor) (w p : List ℕ) (ls : List Level) : Type 0 where
  pub page : Page b p
  pub led : Led b w p ls
  pub fits_or_waits : (x : List ℕ) → Wanted b c w x → Fits b p x ⊎ Waits b ls x

abbrev pub Covered : Program → Cursor → List ℕ → Walk → Type 0
Covered b c w ended = (x : List ℕ) → Wanted b c w x → ⊥
Covered b c w (at p ls) = Covers b c w p ls

led_grows : (b : Program) (w p q : List ℕ) (ls : List Level) → Led b w p ls → Grows p q → Led b w q ls
led_grows b w p q [] h g = grows_trans w p q h g
led_grows b w p q (level side a r ∷ ls) h g = (h.0, h.1, grows_trans (set r a (mark side)) p q h.2 g, h.3)

-- the page of the latest level, and the wishes, grow into the page
latest_grows : (b : Program) (w p q : List ℕ) (a : ℕ) (side : Side) (ls : List Level) → Led b w p (level side a q ∷ ls) → Grows q p
latest_grows b w p q a side ls h = grows_trans q (set q a (mark side)) p (grows_set q a (mark side) h.1.free) h.2

led_wishes : (b : Program) (w p : List ℕ) (ls : List Level) → Led b w p ls → Grows w p
led_wishes b w p [] h = h
led_wishes b w p (level side a q ∷ ls) h = grows_trans w q p (led_wishes b w q ls h.3) (latest_grows b w p q a side ls h)

retreats : (b : Program) (c : Cursor) (w p : List ℕ) (ls : List Level) → Led b w p ls → ((x : List ℕ) → Wanted b c w x → Waits b ls x) → Covered b c w (retreat ls)
retreats b c w p [] h f = f
retreats b c w p (level inn a q ∷ ls) h f = retreats b c w q ls h.3 f
retreats b c w p (level out a q ∷ ls) h f = record { page = page_set b q a 2 h.0 (lit≤ tt); led = (h.0, h.1, λ i l. refl, h.3); fits_or_waits = f }

values_back : (b : Program) (p q s : List ℕ) → Grows q p → Values b.atoms p s → Values b.atoms q s
values_back b p q s g f i l m = let e = g i m in let v = f i l (omega arith) in v ∙ e

-- what waits is larger than all that fits the page
waits_larger : (b : Program) (w p s y : List ℕ) (ls : List Level) → Led b w p ls → Values b.atoms p s → Sheet b.atoms y → Waits b ls y → Smaller s y
waits_larger b w p s y [] h f hy u = absurd u
waits_larger b w p s y (level inn a q ∷ ls) h f hy u = waits_larger b w q s y ls h.3 (values_back b p q s (latest_grows b w p q a inn ls h) f) hy u
waits_larger b w p s y (level out a q ∷ ls) h f hy (inr u) = waits_larger b w q s y ls h.3 (values_back b p q s (latest_grows b w p q a out ls h) f) hy u
waits_larger b w p s y (level out a q ∷ ls) h f hy (inl u) =
    let la = h.1.atom in
    let k : a < length q = let e = h.0.long in omega arith in
    let fit = fit_values b (set q a 2) y (page_set b q a 2 h.0 (lit≤ tt)) hy u in
    record {
      at = a;
      same = λ i l. let m = h.1.before i l in
          let r : i < b.atoms = omega arith in
          let d = values_back b p q s (latest_grows b w p q a out ls h) f i r m in
          let g = grows_set q a 2 h.1.free i m in
          let e = fit i r (omega arith) in omega arith;
      zero = let g = get_or-set_same q a 1 0 k in let e = h.2 a (omega arith) in let v = f a la (omega arith) in omega arith;
      one = let g = get_or-set_same q a 2 0 k in let e = fit a la (omega arith) in omega arith;
    }

-- what one step keeps
abbrev pub Stepped : Program → Cursor → List ℕ → Move → Type 0
Stepped b c w (went v) = Covered b c w v
Stepped b c w (found s v) = Says b c w (sheet s) × Covered b (Some s) w v

pub followed : (f : Meaning) (b : Program) (p q : List ℕ) → LawfulOn b f → Page b p → f b p ≡ marked q → Follows b p q
followed f b p q h G e = rw e at (h p G)

-- after the operator
applied : (f : Meaning) (b : Program) (c : Cursor) (w p q : List ℕ) (ls : List Level) → LawfulOn b f → f b p ≡ marked q → Covers b c w p ls → Covers b c w q ls
applied f b c w p q ls h e k =
    let A = followed f b p q h k.page e in
    record { page = A.page; led = led_grows b w p q ls k.led A.growth; fits_or_waits = λ x u. ⊎_elim (λ t. inl (A.sound x u.answer t)) (λ t. inr t) (k.fits_or_waits x u) }

-- if no wanted set fits the page, the walk retreats
gives_up : (b : Program) (c : Cursor) (w p : List ℕ) (ls : List Level) → Covers b c w p ls → ((x : List ℕ) → Wanted b c w x → Fits b p x → ⊥) → Covered b c w (retreat ls)
gives_up b c w p ls k none-fits = retreats b c w p ls k.led (λ x u. ⊎_elim (λ t. absurd (none-fits x u t)) (λ t. t) (k.fits_or_waits x u))

pub step_keeps : (f : Meaning) (b : Program) (c : Cursor) (w p : List ℕ) (ls : List Level) (m : Move) → LawfulOn b f → length w ≡ b.atoms → SheetCursor b.atoms c → Covers b c w p ls → Step f b c p ls m → Stepped b c w m
step_keeps f b c w p ls m h hw hc k (clashes e) = let A : Allowed b p clash = rw e at (h p k.page) in gives_up b c w p ls k (λ x u. A x u.answer)
step_keeps f b c w p ls m h hw hc k (falls_behind q e d) =
    let g = applied f b c w p q ls h e k in
    gives_up b c w q ls g (λ x u t. behind_none b.atoms q x c u.answer.sheet.long (fit_values b q x g.page u.answer.sheet t) d u.above)
step_keeps f b c w p ls m h hw hc k (misses q e nb fu na) =
    let g = applied f b c w p q ls h e k in
    gives_up b c w q ls g (λ x u t. na (rw (← (same_sheet b q x g.page fu u.answer.sheet t)) at u.answer))
step_keeps f b c w p ls m h hw hc k (finds q e nb fu an) =
    let g = applied f b c w p q ls h e k in
    let s = sheet_of b q in
    let sh = full_marks b q g.page fu in
    let ws : Wanted b c w s = record { answer = an; above = not_behind_above b.atoms q s c sh an.sheet hc nb; agrees = λ a l. let d = led_wishes b w q ls g.led a l in let v = sh a (marked_low w a b.atoms hw l) in omega arith } in (
      (
        ws,
        λ y u. ⊎_elim (λ t. inl (same_sheet b q y g.page fu u.answer.sheet t))
            (λ t. inr (waits_larger b w q s y ls g.led (λ i l z. sym (sh i l)) u.answer.sheet t)) (g.fits_or_waits y u),
      ),
      record { page = g.page; led = g.led; fits_or_waits = λ x u. g.fits_or_waits x (record { answer = u.answer; above = above_later c s x ws.above u.above; agrees = u.agrees }) },
    )
step_keeps f b c w p ls m h hw hc k (chooses q a e nb lo) =
    let g = applied f b c w p q ls h e k in
    record {
      page = page_set b q a 1 g.page (lit≤ tt);
      led = (g.page, lo, λ i l. refl, g.led);
      fits_or_waits = λ x u. ⊎_elim (λ t. elim (cases_eq (get_or x a 0) 0) [
        | inl z ↦ inl (fits_atom b q x a 1 g.page lo.atom t (omega arith))
        | inr z ↦ inr (inl (fits_atom b q x a 2 g.page lo.atom t (let v = u.answer.sheet.marks a in omega arith)))
      ]) (λ t. inr (inr t)) (g.fits_or_waits x u);
    }
