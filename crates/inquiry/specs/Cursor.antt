-- Cursors, what is above them, and pages of marks beside them: a mark is 0 for open, 1 for out, 2 for in. Assumes nothing.
use Rattle.std.specs.Prelude.{◌≡◌, ℕ, ◌+◌, ◌<◌, ◌⊎◌, List, Some, None, Option, slice_index, slice_index_or}
use Rattle.book.specs.Program.{Program}
use Rattle.answer.specs.Order.{Smaller}
use Rattle.answer.specs.Computed.{sheet_by}
use Rattle.operator.specs.Page.{is_in}

-- a cursor, the place in an enumeration: none, or a sheet
abbrev pub Cursor : Type 0
Cursor = Option (List ℕ)

-- every sheet is above none, and a larger sheet is above a sheet
abbrev pub Above : Cursor → List ℕ → Type 0
Above None s = Unit {0}
Above (Some c) s = Smaller c s

-- the page marks each of the n atoms as the sheet has it
abbrev pub Marks : ℕ → List ℕ → List ℕ → Type 0
Marks n p s = (i : ℕ) → i < n → slice_index p i ≡ slice_index s i + 1

-- at the lowest atom where the page's mark is not the sheet's value, the page is out and the sheet has 1
pub record Lower (n : ℕ) (p c : List ℕ) : Type 0 where
  pub at : ℕ
  pub atom : at < n
  pub same : (i : ℕ) → i < at → slice_index p i ≡ slice_index c i + 1
  pub out : slice_index_or p at 0 ≡ 1
  pub one : slice_index_or c at 0 ≡ 1

-- the page is behind the cursor: so it is, or there is no such atom
abbrev pub Behind : ℕ → List ℕ → Cursor → Type 0
Behind n p None = ⊥
Behind n p (Some c) = Lower n p c ⊎ Marks n p c

-- a is the lowest open atom of the page
pub record Lowest (n : ℕ) (p : List ℕ) (a : ℕ) : Type 0 where
  pub atom : a < n
  pub free : slice_index_or p a 0 ≡ 0
  pub before : (i : ℕ) → i < a → 0 < slice_index p i

-- no atom of the page is open
abbrev pub Full : ℕ → List ℕ → Type 0
Full n p = (i : ℕ) → i < n → 0 < slice_index p i

-- the sheet of a page: the atoms that it marks in
abbrev pub sheet_of : Program → List ℕ → List ℕ
sheet_of b p = sheet_by b.atoms (is_in p)
