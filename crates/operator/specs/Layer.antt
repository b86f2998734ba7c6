-- Layers: operators over operators. Assumes nothing.
use Rattle.std.specs.Prelude.{ℕ, zero, suc, Bool, true, false, cond, List, nat_lt, slice_set}
use Rattle.std.specs.Str.{bytes_eq}
use Rattle.book.specs.Program.{Program}
use Rattle.operator.specs.Page.{object_count, is_open, opens, Outcome, clash, marked, Meaning}
use Rattle.operator.specs.Operator.{forward, backward, unfounded}

-- sequence: a first operator and then a second; a clash stays a clash
abbrev pub onward : Meaning → Program → Outcome → Outcome
onward g b clash = clash
onward g b (marked q) = g b q

abbrev pub sequence : Meaning → Meaning → Meaning
sequence f g b p = onward g b (f b p)

-- until-rest: a clash ends it, and so does a page as it was
abbrev pub settle : List ℕ → (List ℕ → Outcome) → Outcome → Outcome
settle p more clash = clash
settle p more (marked q) = elim (bytes_eq p q) [ true ↦ marked q | false ↦ more q ]

-- at most k applications; one more than there are open marks suffice
abbrev pub rest : ℕ → Meaning → Meaning
rest zero f b p = marked p
rest (suc k) f b p = settle p (rest k f b) (f b p)

abbrev pub until_rest : Meaning → Meaning
until_rest f b p = rest (suc (opens (object_count b) p)) f b p

abbrev pub clashes : Outcome → Bool
clashes clash = true
clashes (marked q) = false

-- lookahead: an atom is tried out, a body in; the opposite marks
abbrev pub trial : Program → ℕ → ℕ
trial b i = cond (nat_lt i b.atoms) 1 2

abbrev pub opposite : Program → ℕ → ℕ
opposite b i = cond (nat_lt i b.atoms) 2 1

-- an open object gets the opposite mark if the operator below clashes at the trial, and nothing else is taken over
abbrev pub tried : Meaning → Program → ℕ → List ℕ → List ℕ
tried f b i p = elim (is_open p i) [ false ↦ p | true ↦ elim (clashes (f b (slice_set p i (trial b i)))) [ true ↦ slice_set p i (opposite b i) | false ↦ p ] ]

-- the objects below k, in ascending order
abbrev pub looked : ℕ → Meaning → Program → List ℕ → List ℕ
looked zero f b p = p
looked (suc k) f b p = tried f b k (looked k f b p)

abbrev pub lookahead : Meaning → Meaning
lookahead f b p = marked (looked (object_count b) f b p)

-- the operator that derives nothing
abbrev pub idle : Meaning
idle b p = marked p

-- the basic stack and the full stack
abbrev pub basic : Meaning
basic = until_rest (sequence forward (sequence backward unfounded))

abbrev pub full : Meaning
full = until_rest (sequence basic (lookahead basic))
