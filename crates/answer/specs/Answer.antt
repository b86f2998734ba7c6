-- Answer sets of a program, after Gelfond and Lifschitz. Assumes nothing.
use Rattle.std.specs.Prelude.{◌≡◌, ℕ, ◌<◌, ◌≤◌, Bool, true, not, ◌&&◌, List, length, ◌==◌, nat_eq, slice_index}
use Rattle.book.specs.Program.{ProgramRule, Program, rule_count, nth_rule, headed}
use Rattle.answer.specs.Tests.{each_of}

-- atom a is the head of rule r
abbrev pub heads : Program → ℕ → ℕ → Bool
heads p r a = headed (nat_eq a) (nth_rule p r)

-- a sheet over n atoms, in the field an interpretation: one number an atom, 1 for in and 0 for out
pub record Sheet (n : ℕ) (s : List ℕ) : Type 0 where
  pub long : length s ≡ n
  pub marks : (a : ℕ) → slice_index s a ≤ 1

-- the atom is in the set that a sheet stands for
abbrev pub inside : List ℕ → ℕ → Bool
inside s a = slice_index s a == 1

-- the atom is not in it
abbrev pub outside : List ℕ → ℕ → Bool
outside s a = not (inside s a)

-- the body of a rule holds in a sheet: its positive atoms are in and its negative ones are not
abbrev pub holds : List ℕ → ProgramRule → Bool
holds s r = each_of (inside s) r.positives && each_of (outside s) r.negatives

-- the rules that the reduct by a sheet keeps, without their negative literals: those with no negative atom in the sheet
abbrev pub reduct : Program → List ℕ → ℕ → Bool
reduct p s r = each_of (outside s) (nth_rule p r).negatives

-- each atom of the first set, a set being given by its test, is in the second
abbrev pub Within : (ℕ → Bool) → (ℕ → Bool) → Type 0
Within t u = (a : ℕ) → t a ≡ true → u a ≡ true

-- a set is closed under the positive parts of the rules used: it has the head of each of them whose positive atoms it has
abbrev pub Closed : Program → (ℕ → Bool) → (ℕ → Bool) → Type 0
Closed p used t =
    (r a : ℕ) → r < rule_count p → heads p r a ≡ true → used r ≡ true → each_of t (nth_rule p r).positives ≡ true → t a ≡ true

-- the smallest set closed under the positive parts of the rules used: closed, and within every closed set
pub record Least (p : Program) (used t : ℕ → Bool) : Type 0 where
  pub closed : Closed p used t
  pub least : (u : ℕ → Bool) → Closed p used u → Within t u

-- an answer set, in the field also a stable model: a sheet closed under its own reduct, and within every sheet closed under it
pub record Answer (p : Program) (s : List ℕ) : Type 0 where
  pub sheet : Sheet p.atoms s
  pub closed : Closed p (reduct p s) (inside s)
  pub least : (t : List ℕ) → Sheet p.atoms t → Closed p (reduct p s) (inside t) → Within (inside s) (inside t)
