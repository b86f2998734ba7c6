-- The first of a row of tests that finds something. Assumes nothing.
use Rattle.std.specs.Prelude.{ℕ, zero, suc, Some, None, Option}

-- what the first of two finds
abbrev pub or_else : {A : Type 0} → Option A → Option A → Option A
or_else None p = p
or_else (Some x) p = Some x

-- what t finds at the lowest index below n at which it finds something
abbrev pub first : {A : Type 0} → (ℕ → Option A) → ℕ → Option A
first t zero = None
first t (suc n) = or_else (first t n) (t n)
