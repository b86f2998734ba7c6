-- The contracts of an inquiry's calls, over its values before and after. Assumes nothing.
use Rattle.std.specs.Prelude.{◌≡◌, ℕ, ◌≤◌, List, ◌∷◌, ◌++◌, take, Ok, Err, Result, ◌≢◌}
use Rattle.book.specs.declared.refusal.Refusal.{Refusal}
use Rattle.book.specs.Program.{Program}
use Rattle.book.specs.Reading.{program_of}
use Rattle.inquiry.specs.Walk.{Finding, none, paused}
use Rattle.inquiry.specs.Calls.{State, Call, Said, declined, done, gave, moved, Response, Event, event, Transcript, settled_cursor, settled_wishes}
use Rattle.inquiry.specs.Promise.{Says, most, Kept, Promised}
use Rattle.inquiry.specs.Register.{handed, Listing, Complete, Listed, Registered}
use Rattle.inquiry.specs.declared.inquiry.Inquiry.{Inquiry}
use Rattle.inquiry.specs.declared.kind.Reply.{Reply}
use Rattle.inquiry.specs.Kinds.{finding}
use Rattle.inquiry.specs.View.{view}

-- the book that an inquiry holds, and its state
abbrev pub held_book : Inquiry → Program
held_book x = program_of x.book

abbrev pub held_state : Inquiry → State
held_state x = view (held_book x) x.state

-- what next says by its result, with the sheet in the first n bytes of the buffer
abbrev pub said : ℕ → List ℕ → Result Reply Refusal → Said
said n buffer (Ok r) = gave (finding r.kind (take n buffer)) r.steps
said n buffer (Err f) = declined f

-- what another call says by its result
abbrev pub said_done : {A : Type 0} → Result A Refusal → Said
said_done (Ok _) = done
said_done (Err f) = declined f

-- one call: what is said and the state after it are those of the walk, over the same book;
-- every list of calls that led to the state is one longer, and the promise holds of it
pub record Answered (x : Inquiry) (c : Call) (r : Said) (y : Inquiry) : Type 0 where
  pub response : Response (held_book x) (held_state x) c r (held_state y)
  pub book : y.book ≡ x.book
  pub longer : (es : List Event) → Transcript (held_book x) es (held_state x) → Transcript (held_book x) (event c r ∷ es) (held_state y)
  pub promised : (es : List Event) → Transcript (held_book x) es (held_state x) → Promised (held_book x) (event c r ∷ es) (held_state y)

-- a finding of next after so many steps, of the inquiry's own cursor and wishes: it says what holds, the steps are bounded by
-- the free wishes and by the allowance, and an allowance that suffices brings an answer
pub record Word (b : Program) (s : State) (allowance : ℕ) (x : Finding) (steps : ℕ) : Type 0 where
  pub says : Says b s.cursor s.wishes x
  pub bounded : steps ≤ most b s.wishes
  pub allowed : steps ≤ allowance
  pub brings : most b s.wishes ≤ allowance → x ≢ paused

-- whatever was called before, the finding keeps the promise
abbrev pub Keeps : Program → State → ℕ → Finding → ℕ → Type 0
Keeps b s allowance x steps = (es : List Event) → Transcript b es s → Kept b es allowance x steps

-- the sheets of a listing that led here, with what is handed out now
abbrev pub Lists : Program → State → Finding → Type 0
Lists b s x = (es fs : List Event) (xs : List (List ℕ)) → Listing es fs xs → Transcript b fs s
    → Listed b (settled_cursor es) (moved s.cursor x) (settled_wishes b es) (xs ++ handed x)

-- at "none" they are the register, and so is every complete listing from the same cursor and wishes, whatever its operators
abbrev pub Closes : Program → State → Finding → Type 0
Closes b s x = x ≡ none → (es fs : List Event) (xs : List (List ℕ)) → Listing es fs xs → Transcript b fs s
    → Registered b (settled_cursor es) (settled_wishes b es) xs
    × ((ys : List (List ℕ)) → Complete b (settled_cursor es) (settled_wishes b es) ys → ys ≡ xs)
