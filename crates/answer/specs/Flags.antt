-- Sets of atoms or of rules as rows of flags, one a number. Assumes nothing.
use Rattle.std.specs.Prelude.{ℕ, Bool, false, List, slice_index_or}

-- the number has its flag set; past the end of the row none has
abbrev pub flagged : List Bool → ℕ → Bool
flagged xs a = slice_index_or xs a false
