-- What a run of steps keeps, and the promise of an inquiry.
use Rattle.std.proofs.Common.{◌≡◌, ℕ, zero, suc, ◌+◌, ◌<◌, ◌≤◌, List, [], ◌∷◌, ◌++◌, length, get_or, set, replicate, Some, None, sym, refl, ap, ◌∙◌, inl, add-one, arith, lit≤}
use Rattle.std.proofs.lemmas.List.{length-set, length-append, length-replicate}
use Rattle.std.proofs.lemmas.Bool.{eqb-true, eq-eqb}
use Rattle.book.specs.declared.refusal.Refusal.{Refusal}
use Rattle.book.specs.Program.{Program, rule_count}
use Rattle.answer.proofs.StrictOrder.{marked_low}
use Rattle.operator.specs.Page.{opens, Meaning, LawfulOn}
use Rattle.operator.specs.Pages.{atom_true, set_bound, opens_le}
use Rattle.inquiry.specs.Cursor.{Cursor}
use Rattle.inquiry.specs.Walk.{Walk, at, found, went, Finding, sheet, none, paused, Run, over, used_up, hands_out, goes_on}
use Rattle.inquiry.specs.Calls.{State, fresh, opening, Call, next, wish, seek, rewind, Said, declined, done, gave, moved, Response, declines, nexts, wishes, seeks, rewinds, BringsLawful, Event, event, Transcript, opened, called, settled_cursor, settled_wishes}
use Rattle.inquiry.specs.Promise.{Says, most, Stretch, begins, passes, waits, Kept, Promise}
use Rattle.inquiry.proofs.Cursors.{SheetCursor}
use Rattle.inquiry.proofs.Faults.{wish_fits, seek_sheet, get_or_none}
use Rattle.inquiry.proofs.Steps.{Covers, Covered, step_keeps}
use Rattle.inquiry.proofs.Measure.{nodes, nodes_pos, nodes_pow, left, step_falls}

-- what a run of at most k steps comes to, with at most m steps left before it
abbrev pub Cost : ℕ → ℕ → Finding → ℕ → ℕ → Type 0
Cost k m (sheet x) n l = (n ≤ m) × (l ≤ m)
Cost k m none n l = (n ≤ m) × (l ≤ m)
Cost k m paused n l = (n ≡ k) × (n + l ≤ m) × (0 < l)

pub record Ran (b : Program) (c : Cursor) (w : List ℕ) (k m : ℕ) (kind : Finding) (n : ℕ) (v : Walk) : Type 0 where
  pub says : Says b c w kind
  pub covered : Covered b (moved c kind) w v
  pub cost : Cost k m kind n (left b.atoms v)

cost_more : (k m m' : ℕ) (kind : Finding) (n l : ℕ) → m < m' → Cost k m kind n l → Cost (suc k) m' kind (suc n) l
cost_more k m m' (sheet x) n l h c = omega arith
cost_more k m m' none n l h c = omega arith
cost_more k m m' paused n l h c = omega arith

pub run_keeps : (f : Meaning) (b : Program) (c : Cursor) (w : List ℕ) → LawfulOn b f → length w ≡ b.atoms → SheetCursor b.atoms c
    → (k : ℕ) (u : Walk) (kind : Finding) (n : ℕ) (v : Walk) → Covered b c w u → Run f b c k u kind n v → Ran b c w k (left b.atoms u) kind n v
run_keeps f b c w h hw hc k u kind n v i over = record { says = i; covered = i; cost = (lit≤ tt, lit≤ tt) }
run_keeps f b c w h hw hc k u kind n v i (used_up {p = p} {ls = ls}) = record { says = tt; covered = i; cost = (refl, omega arith, let z = nodes_pos (opens b.atoms p) in omega arith) }
run_keeps f b c w h hw hc k u kind n v i (hands_out {k = j} {p = p} {s = s} {ls = ls} {w = x} st) =
    let r = step_keeps f b c w p ls (found s x) h hw hc i st in
    let d = step_falls f b c p ls (found s x) h i.page st in
    record { says = r.0; covered = r.1; cost = (let z = nodes_pos (opens b.atoms p) in omega arith, d) }
run_keeps f b c w h hw hc k u kind n v i (goes_on {k = j} {n = m} {p = p} {ls = ls} {w = x} st more) =
    let r = run_keeps f b c w h hw hc j x kind m v (step_keeps f b c w p ls (went x) h hw hc i st) more in
    record { says = r.says; covered = r.covered; cost = cost_more j (left b.atoms x) (left b.atoms u) kind m (left b.atoms v) (step_falls f b c p ls (went x) h i.page st) r.cost }

-- a stretch of paused calls has used its allowances, and the walk has what is left of its steps
abbrev pub Budget : Program → List Event → State → Type 0
Budget b es s = (n allowed : ℕ) → Stretch es n allowed → (n ≡ allowed) × (n + left b.atoms s.walk ≤ nodes (opens b.atoms s.wishes))

pub record Held (b : Program) (es : List Event) (s : State) : Type 0 where
  pub cursor : s.cursor ≡ settled_cursor es
  pub wishes : s.wishes ≡ settled_wishes b es
  pub sheet : SheetCursor b.atoms s.cursor
  pub long : length s.wishes ≡ b.atoms
  pub marks : (i : ℕ) → get_or s.wishes i 0 ≤ 2
  pub covered : Covered b s.cursor s.wishes s.walk
  pub budget : Budget b es s

stretch_done : (es : List Event) (c : Call) (n allowed : ℕ) → Stretch (event c done ∷ es) n allowed → (n ≡ 0) × (allowed ≡ 0)
stretch_done es c n allowed begins = (refl, refl)

padded : (w : List ℕ) (m i : ℕ) → get_or (w ++ replicate {A = ℕ} m 0) i 0 ≡ get_or w i 0
padded [] m i = get_or_none m i
padded (v ∷ w) m zero = refl
padded (v ∷ w) m (suc i) = padded w m i

-- the wishes and the page of a fresh walk have the same marks
pub fresh_page : (b : Program) (c : Cursor) (w : List ℕ) → length w ≡ b.atoms → ((i : ℕ) → get_or w i 0 ≤ 2) → Covers b c w (w ++ replicate (rule_count b) 0) []
fresh_page b c w h m =
    let k = rule_count b in
    record {
      page = record { long = length-append w (replicate k 0) ∙ ap (λ z. length w + z) (length-replicate k 0) ∙ ap (λ z. z + k) h; marks = λ i. rw padded (m i) };
      led = λ i l. padded w k i;
      fits_or_waits = λ x u. inl (record {
        has = λ i e. let z = padded w k i in let y = eqb-true _ _ e in let g = u.agrees i (omega arith) in atom_true b x i (marked_low w i b.atoms h (omega arith)) ∙ eq-eqb _ _ (omega arith);
        lacks = λ i e t. let z = padded w k i in let y = eqb-true _ _ e in let g = u.agrees i (omega arith) in let v = eqb-true _ _ (sym (atom_true b x i (marked_low w i b.atoms h (omega arith))) ∙ t) in omega arith;
      });
    }

fresh_left : (b : Program) (w : List ℕ) → left b.atoms (at (w ++ replicate (rule_count b) 0) []) ≡ nodes (opens b.atoms w)
fresh_left b w =
    let p = w ++ replicate (rule_count b) 0 in
    let x = opens_le b.atoms w p (λ i l. padded w (rule_count b) i) in
    let y = opens_le b.atoms p w (λ i l. sym (padded w (rule_count b) i)) in
    let e : opens b.atoms p ≡ opens b.atoms w = omega arith in
    let d = ap nodes e in omega arith

fresh_budget : (b : Program) (c : Cursor) (w : List ℕ) (es : List Event) (d : Call) → Budget b (event d done ∷ es) (fresh b c w)
fresh_budget b c w es d n allowed st = let z = stretch_done es d n allowed st in let l = fresh_left b w in (omega arith, omega arith)

declined_budget : (b : Program) (es : List Event) (s : State) (c : Call) (r : Refusal) → Budget b es s → Budget b (event c (declined r) ∷ es) s
declined_budget b es s c r h n allowed begins = h 0 0 begins
declined_budget b es s c r h n allowed (passes st) = h n allowed st

declined_held : (b : Program) (es : List Event) (s : State) (c : Call) (r : Refusal) → Held b es s → Held b (event c (declined r) ∷ es) s
declined_held b es s c r h = record { cursor = h.cursor; wishes = h.wishes; sheet = h.sheet; long = h.long; marks = h.marks; covered = h.covered; budget = declined_budget b es s c r h.budget }

fresh_held : (b : Program) (c : Cursor) (w : List ℕ) (es : List Event) (d : Call) → c ≡ settled_cursor (event d done ∷ es) → w ≡ settled_wishes b (event d done ∷ es) → SheetCursor b.atoms c → length w ≡ b.atoms → ((i : ℕ) → get_or w i 0 ≤ 2) → Held b (event d done ∷ es) (fresh b c w)
fresh_held b c w es d e g hc h m = record { cursor = e; wishes = g; sheet = hc; long = h; marks = m; covered = fresh_page b c w h m; budget = fresh_budget b c w es d }

opening_held : (b : Program) → Held b [] (opening b)
opening_held b = let h = length-replicate b.atoms 0 in record { cursor = refl; wishes = refl; sheet = tt; long = h; marks = λ i. rw get_or_none (lit≤ tt); covered = fresh_page b None (replicate b.atoms 0) h (λ i. rw get_or_none (lit≤ tt)); budget = start }
  where
    start : Budget b [] (opening b)
    start n allowed begins = (refl, omega (arith, fresh_left b (replicate b.atoms 0)))

run_budget : (b : Program) (es : List Event) (s : State) (f : Meaning) (k room n : ℕ) (kind : Finding) (v : Walk) → Cost k (left b.atoms s.walk) kind n (left b.atoms v) → Budget b es s
    → Budget b (event (next f k room) (gave kind n) ∷ es) (record { cursor = moved s.cursor kind; wishes = s.wishes; walk = v })
run_budget b es s f k room n (sheet x) v c h m allowed begins = let z = h 0 0 begins in (refl, omega arith)
run_budget b es s f k room n none v c h m allowed begins = let z = h 0 0 begins in (refl, omega arith)
run_budget b es s f k room n paused v c h m allowed begins = let z = h 0 0 begins in (refl, omega arith)
run_budget b es s f k room n paused v c h m allowed (waits {steps = i} {allowed = j} st) = let z = h i j st in (omega arith, omega arith)

moved_sheet : (b : Program) (c : Cursor) (w : List ℕ) (kind : Finding) → SheetCursor b.atoms c → Says b c w kind → SheetCursor b.atoms (moved c kind)
moved_sheet b c w (sheet x) h r = r.0.answer.sheet
moved_sheet b c w none h r = h
moved_sheet b c w paused h r = h

held_more : (b : Program) (es : List Event) (s : State) (c : Call) (r : Said) (t : State) → BringsLawful b c → Held b es s → Response b s c r t → Held b (event c r ∷ es) t
held_more b es s c r t l h (declines {c = d} {r = x} e) = declined_held b es s d x h
held_more b es s c r t l h (nexts {f = f} {k = k} {room = room} {n = n} {x = x} {w = v} e run) =
    let z = run_keeps f b s.cursor s.wishes l h.long h.sheet k s.walk x n v h.covered run in
    record { cursor = ap (λ y. moved y x) h.cursor; wishes = h.wishes; sheet = moved_sheet b s.cursor s.wishes x h.sheet z.says; long = h.long; marks = h.marks; covered = z.covered; budget = run_budget b es s f k room n x v z.cost h.budget }
held_more b es s c r t l h (wishes {a = a} {v = v} e) = fresh_held b s.cursor (set s.wishes a v) es (wish a v) h.cursor (ap (λ y. set y a v) h.wishes) h.sheet (length-set s.wishes a v ∙ h.long) (λ i. set_bound s.wishes a v i 2 (wish_fits b.atoms a v e).1 (h.marks i))
held_more b es s c r t l h (seeks {x = x} e) = fresh_held b (Some x) s.wishes es (seek x) refl h.wishes (seek_sheet b.atoms x e) h.long h.marks
held_more b es s c r t l h rewinds = fresh_held b None s.wishes es rewind refl h.wishes tt h.long h.marks

pub held : (b : Program) (es : List Event) (s : State) → Transcript b es s → Held b es s
held b es s opened = opening_held b
held b es s (called {es = fs} {s = u} {c = c} {r = r} tr l resp) = held_more b fs u c r s l (held b fs u tr) resp

most_nodes : (b : Program) (w : List ℕ) → most b w ≡ nodes (opens b.atoms w)
most_nodes b w = let e = nodes_pow (opens b.atoms w) in rw add-one (omega arith)

cost_steps : (k m : ℕ) (kind : Finding) (n l : ℕ) → Cost k m kind n l → n ≤ m
cost_steps k m (sheet x) n l c = c.0
cost_steps k m none n l c = c.0
cost_steps k m paused n l c = omega arith

cost_paused : (k m : ℕ) (kind : Finding) (n l : ℕ) → Cost k m kind n l → kind ≡ paused → k < m
cost_paused k m (sheet x) n l c e = absurd (cc)
cost_paused k m none n l c e = absurd (cc)
cost_paused k m paused n l c e = omega arith

kept : (b : Program) (es : List Event) (s : State) → Held b es s → (f : Meaning) → LawfulOn b f → (k room : ℕ) (kind : Finding) (n : ℕ) (t : State) → Response b s (next f k room) (gave kind n) t → Kept b es k kind n
kept b es s h f l k room kind n t (nexts {w = v} e run) =
    let z = run_keeps f b s.cursor s.wishes l h.long h.sheet k s.walk kind n v h.covered run in
    let y = most_nodes b s.wishes in
    record {
      says = rw (← h.cursor, ← h.wishes) z.says;
      bounded = λ i allowed st. let x = h.budget i allowed st in let q = cost_steps k _ kind n _ z.cost in rw (← h.wishes) (omega arith);
      brings = λ i allowed st big p. let x = h.budget i allowed st in let q = cost_paused k _ kind n _ z.cost p in let r : most b s.wishes ≤ allowed + k = rw h.wishes big in omega arith;
    }

pub promise : Promise
promise b es s tr = let h = held b es s tr in record { cursor = h.cursor; wishes = h.wishes; kept = kept b es s h }
