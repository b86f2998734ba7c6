-- An inquiry: its state, its calls, what they reply, and what the accepted calls settle. Assumes nothing.
use Rattle.std.specs.Prelude.{◌≡◌, ℕ, cond, List, [], ◌∷◌, ◌++◌, replicate, Some, None, Option, ◌==◌, nat_lt, slice_set, refl}
use Rattle.book.specs.declared.refusal.Cause.TheVariants.{Range, Buffer, Allowance, Value}
use Rattle.book.specs.declared.refusal.Refusal.{Refusal}
use Rattle.book.specs.Refusal.{refuse}
use Rattle.book.specs.Program.{Program, rule_count}
use Rattle.answer.specs.Fault.{sheet_fault}
use Rattle.operator.specs.Page.{Meaning, LawfulOn}
use Rattle.inquiry.specs.Cursor.{Cursor}
use Rattle.inquiry.specs.Walk.{Walk, at, Finding, sheet, none, paused, Run}

-- the state of an inquiry, in the field an enumeration; a wish, in the field an assumption, is 0 for free, 1 for out, 2 for in
pub record State : Type 0 where
  pub cursor : Cursor
  pub wishes : List ℕ
  pub walk : Walk

-- the walk at its start: no levels, and a page that holds the wishes and is otherwise open
abbrev pub fresh : Program → Cursor → List ℕ → State
fresh b c w = record { cursor = c; wishes = w; walk = at (w ++ replicate (rule_count b) 0) [] }

abbrev pub opening : Program → State
opening b = fresh b None (replicate b.atoms 0)

-- next takes an operator, an allowance, in the field a budget, and the room for a sheet
pub data Call : Type 0 where
  next : Meaning → ℕ → ℕ → Call
  wish : ℕ → ℕ → Call
  seek : List ℕ → Call
  rewind : Call

-- an allowance of 0 or above 1,000,000; else a buffer under n bytes, at n
abbrev pub next_fault : (n allowance room : ℕ) → Option Refusal
next_fault n k room =
    cond (k == 0) (Some (refuse 12 Allowance refl 0))
    (cond (nat_lt 1000000 k) (Some (refuse 12 Allowance refl 0)) (cond (nat_lt room n) (Some (refuse 11 Buffer refl n)) None))

-- an atom not below n; else a value above 2
abbrev pub wish_fault : (n atom value : ℕ) → Option Refusal
wish_fault n a v = cond (nat_lt a n) (cond (nat_lt 2 v) (Some (refuse 13 Value refl 0)) None) (Some (refuse 8 Range refl 0))

-- why a call is declined over n atoms
abbrev pub call_fault : ℕ → Call → Option Refusal
call_fault n (next f k room) = next_fault n k room
call_fault n (wish a v) = wish_fault n a v
call_fault n (seek x) = sheet_fault n x
call_fault n rewind = None

-- a call is declined, or done; next gives what it found and the steps made
pub data Said : Type 0 where
  declined : Refusal → Said
  done : Said
  gave : Finding → ℕ → Said

-- a sheet handed out becomes the cursor
abbrev pub moved : Cursor → Finding → Cursor
moved c (sheet x) = Some x
moved c none = c
moved c paused = c

-- one call in a state: what is said, and the state that it leaves
pub data Response (b : Program) (s : State) : Call → Said → State → Type 0 where
  declines : {c : Call} {r : Refusal} → call_fault b.atoms c ≡ Some r → Response b s c (declined r) s
  nexts : {f : Meaning} {k room n : ℕ} {x : Finding} {w : Walk} → next_fault b.atoms k room ≡ None → Run f b s.cursor k s.walk x n w
      → Response b s (next f k room) (gave x n) (record { cursor = moved s.cursor x; wishes = s.wishes; walk = w })
  wishes : {a v : ℕ} → wish_fault b.atoms a v ≡ None → Response b s (wish a v) done (fresh b s.cursor (slice_set s.wishes a v))
  seeks : {x : List ℕ} → sheet_fault b.atoms x ≡ None → Response b s (seek x) done (fresh b (Some x) s.wishes)
  rewinds : Response b s rewind done (fresh b None s.wishes)

-- an operator that a call brings is lawful on the book
abbrev pub BringsLawful : Program → Call → Type 0
BringsLawful b (next f k room) = LawfulOn b f
BringsLawful b (wish a v) = Unit {0}
BringsLawful b (seek x) = Unit {0}
BringsLawful b rewind = Unit {0}

-- what was called, and what was said to it
pub data Event : Type 0 where
  event : Call → Said → Event

-- the events of an inquiry from its opening, latest first, and the state after them
pub data Transcript (b : Program) : List Event → State → Type 0 where
  opened : Transcript b [] (opening b)
  called : {es : List Event} {s t : State} {c : Call} {r : Said} → Transcript b es s → BringsLawful b c → Response b s c r t
      → Transcript b (event c r ∷ es) t

-- the cursor comes from the latest seek, rewind or handing out of a sheet
abbrev pub cursor_by : Cursor → Call → Cursor
cursor_by c (next f k room) = c
cursor_by c (wish a v) = c
cursor_by c (seek x) = Some x
cursor_by c rewind = None

abbrev pub settled_cursor : List Event → Cursor
settled_cursor [] = None
settled_cursor (event c (declined r) ∷ es) = settled_cursor es
settled_cursor (event c done ∷ es) = cursor_by (settled_cursor es) c
settled_cursor (event c (gave x n) ∷ es) = moved (settled_cursor es) x

-- a wish is changed by wish only
abbrev pub wishes_by : List ℕ → Call → List ℕ
wishes_by w (next f k room) = w
wishes_by w (wish a v) = slice_set w a v
wishes_by w (seek x) = w
wishes_by w rewind = w

abbrev pub settled_wishes : Program → List Event → List ℕ
settled_wishes b [] = replicate b.atoms 0
settled_wishes b (event c (declined r) ∷ es) = settled_wishes b es
settled_wishes b (event c done ∷ es) = wishes_by (settled_wishes b es) c
settled_wishes b (event c (gave x n) ∷ es) = settled_wishes b es
