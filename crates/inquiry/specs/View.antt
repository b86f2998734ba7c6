-- The state of an inquiry, read off the code's tables. Assumes nothing.
use Rattle.std.specs.Prelude.{◌≡◌, ℕ, zero, suc, List, [], ◌∷◌, take, replicate, Some, None, Option, slice_index_or}
use Rattle.book.specs.Program.{Program}
use Rattle.operator.specs.Page.{object_count}
use Rattle.inquiry.specs.Cursor.{Cursor}
use Rattle.inquiry.specs.Walk.{Side as Sides, out, inn, Level as Levels, level, Walk as Walks, ended, at}
use Rattle.inquiry.specs.Calls.{State as States}
use Rattle.inquiry.specs.declared.state.State.{State}
use Rattle.inquiry.specs.declared.walk.Walk.{Walk}
use Rattle.inquiry.specs.declared.walk.Level.{Level}
use Rattle.inquiry.specs.declared.walk.Side.{Side}
use Rattle.inquiry.specs.declared.walk.Side.TheVariants.{Out, In}

abbrev pub side_of : Side → Sides
side_of Out = out
side_of In = inn

-- what stands past the end of the table
abbrev pub no_level : Level
no_level = record { atom = 0; side = Out; page = [] }

abbrev pub level_at : List Level → ℕ → Level
level_at t d = slice_index_or t d no_level

-- a level of the table, with z marks to a page
abbrev pub level_of : ℕ → Level → Levels
level_of z l = level (side_of l.side) l.atom (take z l.page)

-- the first d levels of the table, latest first
abbrev pub levels_of : ℕ → List Level → ℕ → List Levels
levels_of z t zero = []
levels_of z t (suc d) = level_of z (level_at t d) ∷ levels_of z t d

-- a walk at the first d levels, and at its own: it has ended if it has none
abbrev pub standing : ℕ → Walk → ℕ → Walks
standing z w d = at (take z w.page) (levels_of z w.levels d)

abbrev pub walk_by : ℕ → Walk → Option ℕ → Walks
walk_by z w None = ended
walk_by z w (Some d) = standing z w d

abbrev pub walk_of : ℕ → Walk → Walks
walk_of z w = walk_by z w w.depth

-- a cursor over n atoms
abbrev pub cursor_of : ℕ → Option (List ℕ) → Cursor
cursor_of n None = None
cursor_of n (Some c) = Some (take n c)

-- the state over a book
abbrev pub view : Program → State → States
view b s = record { cursor = cursor_of b.atoms s.cursor; wishes = take b.atoms s.wishes; walk = walk_of (object_count b) s.walk }

-- nothing but the page changes
abbrev pub OnlyPage : Walk → Walk → Type 0
OnlyPage v w = (w.levels ≡ v.levels) × (w.depth ≡ v.depth)

-- nothing but the cursor changes
abbrev pub OnlyCursor : State → State → Type 0
OnlyCursor s t = (t.walk ≡ s.walk) × (t.wishes ≡ s.wishes)

-- the walk and the state at an opening: nothing wished, marked or chosen
abbrev pub walk_at_start : Walk
walk_at_start = record {
  page = replicate 384 0;
  levels = replicate 128 (record { atom = 0; side = Out; page = replicate 384 0 });
  depth = Some 0;
}

abbrev pub at_start : State
at_start = record { wishes = replicate 128 0; cursor = None; walk = walk_at_start }
