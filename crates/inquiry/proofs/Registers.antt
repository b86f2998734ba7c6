-- A whole register: calls of next up to "none".
use Rattle.std.proofs.Common.{◌≡◌, ℕ, zero, suc, ◌<◌, ◌⊎◌, List, [], ◌∷◌, ◌++◌, length, sym, refl, ◌∙◌, subst, ap₂, inl, inr, ⊎_elim, append-nil, arith}
use Rattle.std.specs.List.{ContainsAt, HoldsAt, AllByRecursion}
use Rattle.std.proofs.ByRecursion.{All-push, all-has, has_append_left, has_append_right, has_push}
use Rattle.book.specs.Program.{Program}
use Rattle.answer.specs.Order.{Smaller}
use Rattle.answer.proofs.StrictOrder.{strict_total}
use Rattle.inquiry.specs.Cursor.{Cursor, Above}
use Rattle.inquiry.specs.Walk.{Finding, sheet, none, paused}
use Rattle.inquiry.specs.Calls.{State, Call, next, Said, declined, gave, moved, Response, BringsLawful, Event, event, Transcript, called, settled_cursor, settled_wishes}
use Rattle.inquiry.specs.Promise.{Wanted, Says}
use Rattle.inquiry.specs.Register.{Ascending, handed, Listing, starts, skips, goes, complete, Registered, Register, OneRegister}
use Rattle.inquiry.proofs.Cursors.{above_later}
use Rattle.inquiry.proofs.Runs.{promise}

-- the sheets handed out so far: all that are wanted from the cursor c, up to the cursor now, d
pub record Begun (b : Program) (c d : Cursor) (w : List ℕ) (xs : List (List ℕ)) : Type 0 where
  pub ascending : Ascending xs
  pub each : AllByRecursion (Wanted b c w) xs
  pub every : (x : List ℕ) → Wanted b c w x → ContainsAt xs x ⊎ Above d x
  pub later : (x : List ℕ) → Above d x → Above c x × AllByRecursion (λ y. Smaller y x) xs

ascending_push : (xs : List (List ℕ)) (x : List ℕ) → Ascending xs → AllByRecursion (λ y. Smaller y x) xs → Ascending (xs ++ x ∷ [])
ascending_push [] x a h = (tt, tt)
ascending_push (y ∷ ys) x a h = (All-push (Smaller y) ys x a.0 h.0, ascending_push ys x a.1 h.1)

begun_more : (b : Program) (c d : Cursor) (w : List ℕ) (xs : List (List ℕ)) (kind : Finding) → Begun b c d w xs → Says b d w kind → Begun b c (moved d kind) w (xs ++ handed kind)
begun_more b c d w xs none B r = subst (Begun b c d w) (sym (append-nil xs)) B
begun_more b c d w xs paused B r = subst (Begun b c d w) (sym (append-nil xs)) B
begun_more b c d w xs (sheet x) B r =
    let k = B.later x r.0.above in
    record {
      ascending = ascending_push xs x B.ascending k.1;
      each = All-push (Wanted b c w) xs x B.each (record { answer = r.0.answer; above = k.0; agrees = r.0.agrees });
      every = λ y u. ⊎_elim (λ h. inl (has_append_left xs (x ∷ []) y h))
          (λ a. ⊎_elim (λ e. inl (subst (ContainsAt (xs ++ x ∷ [])) e (has_push xs x))) (λ l. inr l) (r.1 y (record { answer = u.answer; above = a; agrees = u.agrees }))) (B.every y u);
      later = λ z l. let m = B.later z (above_later d x z r.0.above l) in (m.0, All-push (λ y. Smaller y z) xs x m.1 l);
    }

-- the event before, and what a call of next said
pub record Earlier (b : Program) (es : List Event) (c : Call) (r : Said) (t : State) : Type 0 where
  pub state : State
  pub before : Transcript b es state
  pub lawful : BringsLawful b c
  pub response : Response b state c r t

earlier : (b : Program) (es : List Event) (c : Call) (r : Said) (t : State) → Transcript b (event c r ∷ es) t → Earlier b es c r t
earlier b es c r t (called {s = s} tr l re) = record { state = s; before = tr; lawful = l; response = re }

pub listed : (b : Program) (es fs : List Event) (xs : List (List ℕ)) (s : State) → Listing es fs xs → Transcript b fs s
    → Begun b (settled_cursor es) (settled_cursor fs) (settled_wishes b es) xs × (settled_wishes b fs ≡ settled_wishes b es)
listed b es fs xs s starts tr = (record { ascending = tt; each = tt; every = λ x u. inr u.above; later = λ x a. (a, tt) }, refl)
listed b es fs xs s (skips {fs = gs} {c = c} {r = r} l) tr = let e = earlier b gs c (declined r) s tr in listed b es gs xs e.state l e.before
listed b es fs xs s (goes {fs = gs} {xs = ys} {f = f} {k = k} {room = room} {n = n} {x = kind} l) tr =
    let e = earlier b gs (next f k room) (gave kind n) s tr in
    let h = listed b es gs ys e.state l e.before in
    let r = ((promise b gs e.state e.before).kept f e.lawful k room kind n s e.response).says in
    (begun_more b (settled_cursor es) (settled_cursor gs) (settled_wishes b es) ys kind h.0 (subst (λ w. Says b (settled_cursor gs) w kind) h.1 r), h.1)

pub register : Register
register b c w xs (complete {es = es} {fs = fs} {f = f} {k = k} {room = room} {n = n} {s = s} l tr) =
    let e = earlier b fs (next f k room) (gave none n) s tr in
    let h = listed b es fs xs e.state l e.before in
    let r = ((promise b fs e.state e.before).kept f e.lawful k room none n s e.response).says in
    let B = h.0 in
    record {
      ascending = B.ascending;
      each = B.each;
      every = λ x u. ⊎_elim (λ y. y) (λ a. absurd (r x (record { answer = u.answer; above = a; agrees = rw h.1 u.agrees }))) (B.every x u);
    }

-- two ascending lists of the same sheets are one

has_here : (y : List ℕ) (ys : List (List ℕ)) → ContainsAt (y ∷ ys) y
has_here y ys = (0, omega arith, λ d. refl)

has_cases : (y : List ℕ) (ys : List (List ℕ)) (x : List ℕ) → ContainsAt (y ∷ ys) x → (y ≡ x) ⊎ ContainsAt ys x
has_cases y ys x (k, l, h) = go k l h
  where
    go : (k : ℕ) → k < length (y ∷ ys) → HoldsAt (λ z. z ≡ x) (y ∷ ys) k → (y ≡ x) ⊎ ContainsAt ys x
    go zero l h = inl (h x)
    go (suc k) l h = inr (k, omega arith, h)

one_head : (x y : List ℕ) (xs ys : List (List ℕ)) → Ascending (x ∷ xs) → Ascending (y ∷ ys) → ContainsAt (y ∷ ys) x → ContainsAt (x ∷ xs) y → x ≡ y
one_head x y xs ys a c f g = ⊎_elim (λ e. sym e) (λ h. ⊎_elim (λ e. e)
    (λ k. absurd ((strict_total 0).irreflexive x ((strict_total 0).transitive x y x (all-has (Smaller x) xs y a.0 k) (all-has (Smaller y) ys x c.0 h))))
    (has_cases x xs y g)) (has_cases y ys x f)

one_tail : (x y : List ℕ) (xs ys : List (List ℕ)) → x ≡ y → Ascending (x ∷ xs) → ((z : List ℕ) → ContainsAt (x ∷ xs) z → ContainsAt (y ∷ ys) z) → (z : List ℕ) → ContainsAt xs z → ContainsAt ys z
one_tail x y xs ys e a f z h = ⊎_elim (λ d. absurd ((strict_total 0).irreflexive z (subst (λ u. Smaller u z) (e ∙ d) (all-has (Smaller x) xs z a.0 h)))) (λ k. k) (has_cases y ys z (f z (has_append_right (x ∷ []) xs z h)))

one_list : (xs ys : List (List ℕ)) → Ascending xs → Ascending ys → ((z : List ℕ) → ContainsAt xs z → ContainsAt ys z) → ((z : List ℕ) → ContainsAt ys z → ContainsAt xs z) → xs ≡ ys
one_list [] [] a c f g = refl
one_list [] (y ∷ ys) a c f g = let l = (g y (has_here y ys)).1 in absurd (omega arith)
one_list (x ∷ xs) [] a c f g = let l = (f x (has_here x xs)).1 in absurd (omega arith)
one_list (x ∷ xs) (y ∷ ys) a c f g =
    let e = one_head x y xs ys a c (f x (has_here x xs)) (g y (has_here y ys)) in
    ap₂ ◌∷◌ e (one_list xs ys a.1 c.1 (one_tail x y xs ys e a f) (one_tail y x ys xs (sym e) c g))

-- there is one register
pub registered_once : (b : Program) (c : Cursor) (w : List ℕ) (xs ys : List (List ℕ)) → Registered b c w xs → Registered b c w ys → xs ≡ ys
registered_once b c w xs ys R S = one_list xs ys R.ascending S.ascending (λ z h. S.every z (all-has (Wanted b c w) xs z R.each h)) (λ z h. R.every z (all-has (Wanted b c w) ys z S.each h))

pub one_register : OneRegister
one_register b c w xs ys p q = registered_once b c w xs ys (register b c w xs p) (register b c w ys q)
