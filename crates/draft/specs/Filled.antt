-- The bytes that a table holds. Assumes nothing.
use Rattle.std.specs.Prelude.{ℕ, List}
use Rattle.draft.specs.declared.rows.Rows.{Rows}
use Rattle.draft.specs.Rows.{bytes_by}

-- the bytes of the rows that are filled
abbrev pub filled : {W N : ℕ} → Rows W N → List ℕ
filled r = bytes_by r.rows r.len
