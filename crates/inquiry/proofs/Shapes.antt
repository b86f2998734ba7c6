-- Steps that a loop makes, and the shape that every walk keeps.
use Rattle.std.proofs.Common.{◌≡◌, ℕ, suc, ◌+◌, ◌<◌, ◌≤◌, List, [], ◌∷◌, ◌++◌, length, get_or, set, replicate, Some, None, ◌∙◌, zero-add, arith, lit≤}
use Rattle.std.proofs.lemmas.List.{get_or-set_same, length-set, length-replicate}
use Rattle.book.specs.Program.{Program, rule_count}
use Rattle.operator.specs.Booleans.{many_most}
use Rattle.operator.specs.Page.{Page, is_open, opens, Meaning, LawfulOn}
use Rattle.operator.specs.Pages.{page_set, grows_set, opens_le, opens_lt, set_bound}
use Rattle.inquiry.specs.Cursor.{Cursor, Lowest}
use Rattle.inquiry.specs.Walk.{Level, level, out, inn, Walk, at, retreat, Move, found, went, Step, clashes, falls_behind, finds, misses, chooses, Finding, Run, over, used_up, hands_out, goes_on, ShapedLevels, Shaped}
use Rattle.inquiry.specs.Calls.{State, fresh, Call, Said, Response, declines, nexts, wishes, seeks, rewinds, BringsLawful, Event, Transcript, opened, called}
use Rattle.inquiry.proofs.Faults.{wish_fits, get_or_none}
use Rattle.inquiry.proofs.Steps.{followed}
use Rattle.inquiry.proofs.Runs.{fresh_page, Held, held}

-- steps that went on, latest last: the invariant of a loop that makes the steps of one call
pub data Went (f : Meaning) (b : Program) (c : Cursor) (u : Walk) : ℕ → Walk → Type 0 where
  still : Went f b c u 0 u
  one_more : {j : ℕ} {p : List ℕ} {ls : List Level} {v : Walk} → Went f b c u j (at p ls) → Step f b c p ls (went v) → Went f b c u (suc j) v

pub joins : (f : Meaning) (b : Program) (c : Cursor) (u : Walk) (j : ℕ) (w : Walk) (k : ℕ) (kind : Finding) (n : ℕ) (v : Walk) → Went f b c u j w → Run f b c k w kind n v → Run f b c (j + k) u kind (j + n) v
joins f b c u j w k kind n v still r = rw (zero-add k, zero-add n) r
joins f b c u j w k kind n v (one_more {j = i} {p = p} {ls = ls} g st) r =
    let x : suc i + k ≡ i + suc k = omega arith in let y : suc i + n ≡ i + suc n = omega arith in
    rw (x, y) (joins f b c u i (at p ls) (suc k) kind (suc n) v g (goes_on st r))

abbrev pub walk_of : Move → Walk
walk_of (found s w) = w
walk_of (went w) = w

fewer : (b : Program) (q : List ℕ) (a v : ℕ) → Page b q → Lowest b.atoms q a → opens b.atoms (set q a (suc v)) < opens b.atoms q
fewer b q a v G lo =
    let e = get_or-set_same q a (suc v) 0 (let u = G.long in let y = lo.atom in omega arith) in
    opens_lt b.atoms q (set q a (suc v)) (grows_set q a (suc v) lo.free) a lo.atom lo.free (omega arith)

pub retreat_shaped : (b : Program) (ls : List Level) → ShapedLevels b ls → Shaped b (retreat ls)
retreat_shaped b [] h = tt
retreat_shaped b (level inn a q ∷ ls) h = retreat_shaped b ls h.3
retreat_shaped b (level out a q ∷ ls) h = let l = fewer b q a 1 h.0 h.1 in let r = h.2 in (page_set b q a 2 h.0 (lit≤ tt), omega arith, h)

pub step_shaped : (f : Meaning) (b : Program) (c : Cursor) (p : List ℕ) (ls : List Level) (m : Move) → LawfulOn b f → Shaped b (at p ls) → Step f b c p ls m → Shaped b (walk_of m)
step_shaped f b c p ls m L h (clashes e) = retreat_shaped b ls h.2
step_shaped f b c p ls m L h (falls_behind q e d) = retreat_shaped b ls h.2
step_shaped f b c p ls m L h (misses q e nb fu na) = retreat_shaped b ls h.2
step_shaped f b c p ls m L h (finds q e nb fu an) =
    let A = followed f b p q L h.0 e in let l = opens_le b.atoms p q A.growth in let r = h.1 in (A.page, omega arith, h.2)
step_shaped f b c p ls m L h (chooses q a e nb lo) =
    let A = followed f b p q L h.0 e in let l = opens_le b.atoms p q A.growth in let r = h.1 in let k = fewer b q a 0 A.page lo in
    (page_set b q a 1 A.page (lit≤ tt), omega arith, (A.page, lo, omega arith, h.2))

pub fresh_shaped : (b : Program) (c : Cursor) (w : List ℕ) → length w ≡ b.atoms → ((i : ℕ) → get_or w i 0 ≤ 2) → Shaped b (fresh b c w).walk
fresh_shaped b c w h m = let l = many_most (is_open (w ++ replicate (rule_count b) 0)) b.atoms in ((fresh_page b c w h m).page, omega arith, tt)

run_shaped : (f : Meaning) (b : Program) (c : Cursor) → LawfulOn b f → (k : ℕ) (u : Walk) (x : Finding) (n : ℕ) (v : Walk) → Shaped b u → Run f b c k u x n v → Shaped b v
run_shaped f b c L k u x n v h over = h
run_shaped f b c L k u x n v h used_up = h
run_shaped f b c L k u x n v h (hands_out {p = p} {s = s} {ls = ls} {w = w} st) = step_shaped f b c p ls (found s w) L h st
run_shaped f b c L k u x n v h (goes_on {k = j} {n = m} {p = p} {ls = ls} {w = w} st more) = run_shaped f b c L j w x m v (step_shaped f b c p ls (went w) L h st) more

response_shaped : (b : Program) (es : List Event) (s : State) (c : Call) (r : Said) (t : State) → BringsLawful b c → Held b es s → Shaped b s.walk → Response b s c r t → Shaped b t.walk
response_shaped b es s c r t l d h (declines e) = h
response_shaped b es s c r t l d h (nexts {f = f} {k = k} {n = n} {x = x} {w = v} e run) = run_shaped f b s.cursor l k s.walk x n v h run
response_shaped b es s c r t l d h (wishes {a = a} {v = v} e) = fresh_shaped b s.cursor (set s.wishes a v) (length-set s.wishes a v ∙ d.long) (λ i. set_bound s.wishes a v i 2 (wish_fits b.atoms a v e).1 (d.marks i))
response_shaped b es s c r t l d h (seeks {x = x} e) = fresh_shaped b (Some x) s.wishes d.long d.marks
response_shaped b es s c r t l d h rewinds = fresh_shaped b None s.wishes d.long d.marks

pub transcript_shaped : (b : Program) (es : List Event) (s : State) → Transcript b es s → Shaped b s.walk
transcript_shaped b es s opened = fresh_shaped b None (replicate b.atoms 0) (length-replicate b.atoms 0) (λ i. rw get_or_none (lit≤ tt))
transcript_shaped b es s (called {es = fs} {s = u} {c = c} {r = r} tr l resp) = response_shaped b fs u c r s l (held b fs u tr) (transcript_shaped b fs u tr) resp
