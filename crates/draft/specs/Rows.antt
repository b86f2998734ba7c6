-- The bytes of the first rows of a table, as the invariant of the type says it. Assumes nothing.
use Rattle.std.specs.Prelude.{ℕ, List, take}
use Rattle.std.specs.List.{flat_map}

-- the bytes of the first n rows
unfoldable pub bytes_by : (rows : List (List ℕ)) → ℕ → List ℕ
bytes_by rows n = flat_map (λ row. row) (take n rows)
