-- How a part of a body stands against the marks of a page. Assumes nothing.
use Rattle.std.specs.Prelude.{ℕ, Bool, true, false, cond, ◌==◌}
use Rattle.operator.specs.declared.part.Sign.{Sign}
use Rattle.operator.specs.declared.part.Sign.TheVariants.{Positive, Negative}
use Rattle.operator.specs.declared.part.Part.{Part}
use Rattle.operator.specs.declared.part.Part.TheVariants.{Failed, Satisfied, Lone, Open}

-- all literals are satisfied
abbrev pub satisfies : Part → Bool
satisfies Failed = false
satisfies Satisfied = true
satisfies (Lone a) = false
satisfies Open = false

-- some literal fails
abbrev pub fails : Part → Bool
fails Failed = true
fails Satisfied = false
fails (Lone a) = false
fails Open = false

-- the part has the open atom a, and all its other literals are satisfied
abbrev pub opens_only : ℕ → Part → Bool
opens_only a Failed = false
opens_only a Satisfied = false
opens_only a (Lone c) = a == c
opens_only a Open = false

-- the part with one more open literal
abbrev pub joined_by : Part → ℕ → Part
joined_by Failed a = Failed
joined_by Satisfied a = Lone a
joined_by (Lone c) a = cond (c == a) (Lone c) Open
joined_by Open a = Open

-- the mark of an atom that satisfies a literal, and the one by which it fails
abbrev pub meeting : Sign → ℕ
meeting Positive = 2
meeting Negative = 1

abbrev pub failing : Sign → ℕ
failing Positive = 1
failing Negative = 2
