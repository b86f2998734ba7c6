-- Why bytes are declined as a sheet or a page, and where. Assumes nothing.
use Rattle.std.specs.Prelude.{ℕ, cond, List, length, Some, None, Option, ◌==◌, nat_le, slice_index, refl}
use Rattle.book.specs.declared.refusal.Cause.TheVariants.{Value, Length}
use Rattle.book.specs.declared.refusal.Refusal.{Refusal}
use Rattle.book.specs.Refusal.{refuse}
use Rattle.book.specs.First.{first}

-- a byte v at index i, above the most that it may be
abbrev pub value_fault : (most i v : ℕ) → Option Refusal
value_fault most i v = cond (nat_le v most) None (Some (refuse 13 Value refl i))

-- the first of n bytes that is
abbrev pub values_fault : ℕ → List ℕ → ℕ → Option Refusal
values_fault most s n = first (λ i. value_fault most i (slice_index s i)) n

-- a length other than n, at the length; else the first byte above the most, at its index
abbrev pub bytes_fault : (most n : ℕ) → List ℕ → Option Refusal
bytes_fault most n s = cond (length s == n) (values_fault most s n) (Some (refuse 14 Length refl (length s)))

-- bytes as a sheet over n atoms
abbrev pub sheet_fault : ℕ → List ℕ → Option Refusal
sheet_fault n s = bytes_fault 1 n s
