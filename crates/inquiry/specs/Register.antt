-- Registers, in the field enumerations: what calls of next up to "none" hand out. Assumes of the operators that they are lawful on the book.
use Rattle.std.specs.Prelude.{◌≡◌, ℕ, ◌⊎◌, List, [], ◌∷◌, ◌++◌}
use Rattle.std.specs.List.{ContainsAt, AllByRecursion}
use Rattle.book.specs.declared.refusal.Refusal.{Refusal}
use Rattle.book.specs.Program.{Program}
use Rattle.answer.specs.Order.{Smaller}
use Rattle.operator.specs.Page.{Meaning}
use Rattle.inquiry.specs.Cursor.{Cursor, Above}
use Rattle.inquiry.specs.Walk.{Finding, sheet, none, paused}
use Rattle.inquiry.specs.Calls.{State, Call, next, declined, gave, Event, event, Transcript, settled_cursor, settled_wishes}
use Rattle.inquiry.specs.Promise.{Wanted}

-- each sheet is smaller than all that follow
abbrev pub Ascending : List (List ℕ) → Type 0
Ascending [] = Unit {0}
Ascending (s ∷ ss) = AllByRecursion (Smaller s) ss × Ascending ss

-- the sheet that a finding hands out
abbrev pub handed : Finding → List (List ℕ)
handed (sheet x) = x ∷ []
handed none = []
handed paused = []

-- after the events es only calls of next were accepted: all events by then, and the sheets handed out since, in order
pub data Listing (es : List Event) : List Event → List (List ℕ) → Type 0 where
  starts : Listing es es []
  skips : {fs : List Event} {xs : List (List ℕ)} {c : Call} {r : Refusal} → Listing es fs xs → Listing es (event c (declined r) ∷ fs) xs
  goes : {fs : List Event} {xs : List (List ℕ)} {f : Meaning} {k room n : ℕ} {x : Finding} → Listing es fs xs
      → Listing es (event (next f k room) (gave x n) ∷ fs) (xs ++ handed x)

-- a listing up to "none", from a cursor and wishes
pub data Complete (b : Program) : Cursor → List ℕ → List (List ℕ) → Type 0 where
  complete : {es fs : List Event} {xs : List (List ℕ)} {f : Meaning} {k room n : ℕ} {s : State} → Listing es fs xs
      → Transcript b (event (next f k room) (gave none n) ∷ fs) s → Complete b (settled_cursor es) (settled_wishes b es) xs

-- the sheets so far of a register from the cursor c, with the cursor now at d: ascending, each wanted,
-- and every wanted sheet is among them or above the cursor now
pub record Listed (b : Program) (c d : Cursor) (w : List ℕ) (xs : List (List ℕ)) : Type 0 where
  pub ascending : Ascending xs
  pub each : AllByRecursion (Wanted b c w) xs
  pub every : (x : List ℕ) → Wanted b c w x → ContainsAt xs x ⊎ Above d x

-- the register: the wanted sheets and no others, ascending, so each once
pub record Registered (b : Program) (c : Cursor) (w : List ℕ) (xs : List (List ℕ)) : Type 0 where
  pub ascending : Ascending xs
  pub each : AllByRecursion (Wanted b c w) xs
  pub every : (x : List ℕ) → Wanted b c w x → ContainsAt xs x

-- every complete listing is the register
abbrev pub Register : Type 0
Register = (b : Program) (c : Cursor) (w : List ℕ) (xs : List (List ℕ)) → Complete b c w xs → Registered b c w xs

-- and two of them are one, whichever lawful operators were used
abbrev pub OneRegister : Type 0
OneRegister = (b : Program) (c : Cursor) (w : List ℕ) (xs ys : List (List ℕ)) → Complete b c w xs → Complete b c w ys → xs ≡ ys
