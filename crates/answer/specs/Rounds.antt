-- What a round over the rules does to the atoms found so far: for the contracts inside this crate. Assumes nothing.
use Rattle.std.specs.Prelude.{◌≡◌, ℕ, ◌<◌, Bool, true, false, not, List, slice_set}
use Rattle.book.specs.Program.{ProgramRule, Program, nth_rule, headed}
use Rattle.answer.specs.Tests.{each_of, how_many}
use Rattle.answer.specs.Answer.{Within, Closed}
use Rattle.answer.specs.Flags.{flagged}

-- the flags have the head of rule r if it is used and they have its positive atoms
abbrev pub Heeds : Program → (ℕ → Bool) → List Bool → ℕ → Type 0
Heeds p used xs r =
    used r ≡ true → each_of (flagged xs) (nth_rule p r).positives ≡ true → headed (flagged xs) (nth_rule p r) ≡ true

-- the flags are within every closed set
abbrev pub Inner : Program → (ℕ → Bool) → List Bool → Type 0
Inner p used xs = (t : ℕ → Bool) → Closed p used t → Within (flagged xs) t

-- how many atoms have no flag
unfoldable pub absent : List Bool → ℕ
absent xs = how_many (λ a. not (flagged xs a)) 128

-- a rule gave its head to the flags, or had nothing to give
abbrev pub Added : ProgramRule → List Bool → Bool → List Bool → Type 0
Added r xs true ys = (ys ≡ slice_set xs r.head true) × (each_of (flagged xs) r.positives ≡ true) × (headed (flagged xs) r ≡ false) × (r.head < 128)
Added r xs false ys = (ys ≡ xs) × (each_of (flagged xs) r.positives ≡ true → headed (flagged xs) r ≡ true)

-- the first k rules gave something, or the flags are as before and heed each of these rules
abbrev pub Went : Program → (ℕ → Bool) → ℕ → List Bool → Bool → List Bool → Type 0
Went p used k xs true ys = (absent ys < absent xs) × (Inner p used xs → Inner p used ys)
Went p used k xs false ys = (ys ≡ xs) × ((r : ℕ) → r < k → Heeds p used xs r)
