-- What an inquiry promises over any list of calls. Assumes of the operators that they are lawful on the book.
use Rattle.std.specs.Prelude.{◌≡◌, ℕ, ◌+◌, ◌-◌, ◌^◌, ◌<◌, ◌≤◌, ◌⊎◌, List, ◌∷◌, ◌≢◌, slice_index}
use Rattle.book.specs.declared.refusal.Refusal.{Refusal}
use Rattle.book.specs.Program.{Program}
use Rattle.answer.specs.Answer.{Answer}
use Rattle.answer.specs.Order.{Smaller}
use Rattle.operator.specs.Page.{opens, Meaning, LawfulOn}
use Rattle.inquiry.specs.Cursor.{Cursor, Above}
use Rattle.inquiry.specs.Walk.{Finding, sheet, none, paused}
use Rattle.inquiry.specs.Calls.{State, Call, next, declined, gave, Response, Event, event, Transcript, settled_cursor, settled_wishes}

-- the sheet has each wished atom as wished
abbrev pub Agrees : List ℕ → List ℕ → Type 0
Agrees w x = (a : ℕ) → 0 < slice_index w a → slice_index x a + 1 ≡ slice_index w a

-- an answer set above the cursor that agrees with the wishes
pub record Wanted (b : Program) (c : Cursor) (w x : List ℕ) : Type 0 where
  pub answer : Answer b x
  pub above : Above c x
  pub agrees : Agrees w x

-- what a finding says: the smallest wanted sheet, or that there is none; a pause says nothing
abbrev pub Says : Program → Cursor → List ℕ → Finding → Type 0
Says b c w (sheet x) = Wanted b c w x × ((y : List ℕ) → Wanted b c w y → (x ≡ y) ⊎ Smaller x y)
Says b c w none = (y : List ℕ) → Wanted b c w y → ⊥
Says b c w paused = Unit {0}

-- the most steps of a walk from these wishes: 2 ^ (f + 1) - 1 for f free ones
abbrev pub most : Program → List ℕ → ℕ
most b w = 2 ^ (opens b.atoms w + 1) - 1

-- some of the latest events, the accepted ones all calls of next that paused: steps made and steps allowed
pub data Stretch : List Event → ℕ → ℕ → Type 0 where
  begins : {es : List Event} → Stretch es 0 0
  passes : {es : List Event} {steps allowed : ℕ} {c : Call} {r : Refusal} → Stretch es steps allowed → Stretch (event c (declined r) ∷ es) steps allowed
  waits : {es : List Event} {steps allowed k room n : ℕ} {f : Meaning} → Stretch es steps allowed
      → Stretch (event (next f k room) (gave paused n) ∷ es) (steps + n) (allowed + k)

-- a call of next after these events: it says what holds, its stretch is not too long, and an allowance that suffices brings an answer
pub record Kept (b : Program) (es : List Event) (k : ℕ) (x : Finding) (steps : ℕ) : Type 0 where
  pub says : Says b (settled_cursor es) (settled_wishes b es) x
  pub bounded : (n allowed : ℕ) → Stretch es n allowed → n + steps ≤ most b (settled_wishes b es)
  pub brings : (n allowed : ℕ) → Stretch es n allowed → most b (settled_wishes b es) ≤ allowed + k → x ≢ paused

-- after these events cursor and wishes are the settled ones, and whatever call of next comes then keeps its word
pub record Promised (b : Program) (es : List Event) (s : State) : Type 0 where
  pub cursor : s.cursor ≡ settled_cursor es
  pub wishes : s.wishes ≡ settled_wishes b es
  pub kept : (f : Meaning) → LawfulOn b f → (k room : ℕ) (x : Finding) (steps : ℕ) (t : State)
      → Response b s (next f k room) (gave x steps) t → Kept b es k x steps

-- the promise over every list of calls
abbrev pub Promise : Type 0
Promise = (b : Program) (es : List Event) (s : State) → Transcript b es s → Promised b es s
