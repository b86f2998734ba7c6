-- Programs: what a book says, as mathematics. Assumes nothing.
use Rattle.std.specs.Prelude.{◌≡◌, ℕ, ◌+◌, ◌<◌, ◌≤◌, Bool, true, List, [], ◌∷◌, length, nat_eq, slice_index, slice_index_or}
use Rattle.std.specs.List.{AllByRecursion}

-- a rule: the atom that it gives, and the atoms that must be in and those that must be out for it
pub record ProgramRule : Type 0 where
  pub head : ℕ
  pub positives : List ℕ
  pub negatives : List ℕ

-- a program, here called a book: how many atoms it has, which are numbered from 0, and its rules
pub record Program : Type 0 where
  pub atoms : ℕ
  pub rules : List ProgramRule

-- the program of n atoms and no rules
abbrev pub no_rules : ℕ → Program
no_rules n = record { atoms = n; rules = [] }

-- the number of rules, and the rule of a number
abbrev pub rule_count : Program → ℕ
rule_count p = length p.rules

abbrev pub no_rule : ProgramRule
no_rule = record { head = 0; positives = []; negatives = [] }

abbrev pub nth_rule : Program → ℕ → ProgramRule
nth_rule p k = slice_index_or p.rules k no_rule

-- how many literals a rule has, and how many some rules have together
abbrev pub width : ProgramRule → ℕ
width r = length r.positives + length r.negatives

abbrev pub total : List ProgramRule → ℕ
total [] = 0
total (r ∷ rs) = width r + total rs

-- the head of the rule passes the test: the only reader of a head
abbrev pub headed : (ℕ → Bool) → ProgramRule → Bool
headed t r = t r.head

-- each number is smaller than the next
abbrev pub Ascends : List ℕ → Type 0
Ascends xs = (i : ℕ) → i + 1 < length xs → slice_index xs i < slice_index xs (i + 1)

-- a part of a body over n atoms
pub record ProperPart (n : ℕ) (xs : List ℕ) : Type 0 where
  pub atoms : AllByRecursion (λ a. a < n) xs
  pub ascends : Ascends xs

-- a rule over n atoms
pub record ProperRule (n : ℕ) (r : ProgramRule) : Type 0 where
  pub head : (a : ℕ) → headed (nat_eq a) r ≡ true → a < n
  pub positives : ProperPart n r.positives
  pub negatives : ProperPart n r.negatives

-- heads and literals are atoms of the program, and within each part of a body the atoms ascend
abbrev pub Proper : Program → Type 0
Proper p = (k : ℕ) → k < rule_count p → ProperRule p.atoms (nth_rule p k)

-- the limits of a book
pub record Limited (p : Program) : Type 0 where
  pub atoms : p.atoms ≤ 128
  pub rules : rule_count p ≤ 256
  pub literals : total p.rules ≤ 2048

-- what every book in use keeps
pub record Valid (p : Program) : Type 0 where
  pub proper : Proper p
  pub limited : Limited p
