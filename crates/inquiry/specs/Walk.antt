-- The walk of an inquiry, in the field a search: one step, and the steps of one call. Assumes nothing.
use Rattle.std.specs.Prelude.{◌≡◌, ℕ, suc, ◌+◌, ◌≤◌, List, [], ◌∷◌, length, slice_set}
use Rattle.book.specs.Program.{Program}
use Rattle.answer.specs.Answer.{Answer}
use Rattle.operator.specs.Page.{Page, opens, clash, marked, Meaning}
use Rattle.inquiry.specs.Cursor.{Cursor, Behind, Lowest, Full, sheet_of}

-- the side of an atom that is being tried, and the mark that it gives
pub data Side : Type 0 where
  out : Side
  inn : Side

abbrev pub mark : Side → ℕ
mark out = 1
mark inn = 2

-- a level, in the field a decision level: the side being tried, the atom chosen and the page before the choice
pub data Level : Type 0 where
  level : Side → ℕ → List ℕ → Level

-- a walk has ended, or stands at a page with its levels, latest first
pub data Walk : Type 0 where
  ended : Walk
  at : List ℕ → List Level → Walk

-- to retreat: remove every latest level whose in side is tried; the level then latest gets its page back with its atom in
abbrev pub retreat : List Level → Walk
retreat [] = ended
retreat (level inn a p ∷ ls) = retreat ls
retreat (level out a p ∷ ls) = at (slice_set p a (mark inn)) (level inn a p ∷ ls)

-- what one step comes to: a sheet handed out, or the walk gone on
pub data Move : Type 0 where
  found : List ℕ → Walk → Move
  went : Walk → Move

-- one step, under an operator, a book and a cursor, from a page with its levels
pub data Step (f : Meaning) (b : Program) (c : Cursor) (p : List ℕ) (ls : List Level) : Move → Type 0 where
  clashes : f b p ≡ clash → Step f b c p ls (went (retreat ls))
  falls_behind : (q : List ℕ) → f b p ≡ marked q → Behind b.atoms q c → Step f b c p ls (went (retreat ls))
  finds : (q : List ℕ) → f b p ≡ marked q → (Behind b.atoms q c → ⊥) → Full b.atoms q → Answer b (sheet_of b q)
      → Step f b c p ls (found (sheet_of b q) (at q ls))
  misses : (q : List ℕ) → f b p ≡ marked q → (Behind b.atoms q c → ⊥) → Full b.atoms q → (Answer b (sheet_of b q) → ⊥)
      → Step f b c p ls (went (retreat ls))
  chooses : (q : List ℕ) (a : ℕ) → f b p ≡ marked q → (Behind b.atoms q c → ⊥) → Lowest b.atoms q a
      → Step f b c p ls (went (at (slice_set q a (mark out)) (level out a q ∷ ls)))

-- what a call of next finds: a sheet, that there is none, or nothing yet
pub data Finding : Type 0 where
  sheet : List ℕ → Finding
  none : Finding
  paused : Finding

-- at most so many steps from a walk: the finding, the steps made and the walk then
pub data Run (f : Meaning) (b : Program) (c : Cursor) : ℕ → Walk → Finding → ℕ → Walk → Type 0 where
  over : {k : ℕ} → Run f b c k ended none 0 ended
  used_up : {p : List ℕ} {ls : List Level} → Run f b c 0 (at p ls) paused 0 (at p ls)
  hands_out : {k : ℕ} {p s : List ℕ} {ls : List Level} {w : Walk} → Step f b c p ls (found s w)
      → Run f b c (suc k) (at p ls) (sheet s) 1 w
  goes_on : {k n : ℕ} {p : List ℕ} {ls : List Level} {w v : Walk} {x : Finding} → Step f b c p ls (went w) → Run f b c k w x n v
      → Run f b c (suc k) (at p ls) x (suc n) v

-- the shape of a walk: its pages are pages of the book, each level chose an open atom, and there is room for a level more
-- wherever an atom is open
abbrev pub ShapedLevels : Program → List Level → Type 0
ShapedLevels b [] = Unit {0}
ShapedLevels b (level side a q ∷ ls) = Page b q × Lowest b.atoms q a × (length ls + opens b.atoms q ≤ b.atoms) × ShapedLevels b ls

abbrev pub Shaped : Program → Walk → Type 0
Shaped b ended = Unit {0}
Shaped b (at p ls) = Page b p × (length ls + opens b.atoms p ≤ b.atoms) × ShapedLevels b ls
