-- The rules and the atoms that are handed out one after another. Assumes nothing.
use Rattle.std.specs.Prelude.{◌≡◌, ℕ, ◌+◌, ◌-◌, ◌<◌, ◌≤◌, List, Option, MatchOption, slice_index}
use Rattle.std.specs.Iterator.{Count, at_most}
use Rattle.book.specs.declared.book.Book.{Book}
use Rattle.book.specs.declared.book.rules.Rule.{Rule}
use Rattle.book.specs.declared.book.iter.Rules.{Rules}
use Rattle.book.specs.declared.book.iter.Atoms.{Atoms}
use Rattle.book.specs.Program.{rule_count, nth_rule, ProperRule}
use Rattle.book.specs.Layout.{words}
use Rattle.book.specs.Reading.{program_of, rule_of}

-- the book that the rules are handed out of, and the number of the next one
abbrev pub rules_book : Rules → Book
rules_book s = s.book

abbrev pub rules_next : Rules → ℕ
rules_next s = s.next

-- the rule of a number of the book, which is proper, so that its head and the atoms of its parts are atoms of the book;
-- number and atoms are within the limits of a book
pub record IsRule (b : Book) (k : ℕ) (x : Rule) : Type 0 where
  pub within : k < rule_count (program_of b)
  pub rule : rule_of x ≡ nth_rule (program_of b) k
  pub proper : ProperRule (program_of b).atoms (rule_of x)
  pub head : x.head < (program_of b).atoms
  pub positives : (i : ℕ) → slice_index (words x.positives.now) i < (program_of b).atoms
  pub negatives : (i : ℕ) → slice_index (words x.negatives.now) i < (program_of b).atoms
  pub few_atoms : (program_of b).atoms ≤ 128
  pub few_rules : rule_count (program_of b) ≤ 256

-- a call hands out the next rule and goes on to the one after it, or there is none
abbrev pub HandsOut : Rules → Option Rule → Rules → Type 0
HandsOut s r t =
    (t.book ≡ s.book)
    × MatchOption r ((rule_count (program_of s.book) ≤ s.next) × (t.next ≡ s.next)) (λ x. IsRule s.book s.next x × (t.next ≡ s.next + 1))

-- no more rules come than the book has from the next one on
abbrev pub rules_left : Rules → Count
rules_left s = at_most (rule_count (program_of s.book) - s.next)

-- the atoms that are left
abbrev pub atoms_left : Atoms → List ℕ
atoms_left s = words s.part.now

-- the first k rules of the book were handed out
pub record AtRule (b : Book) (s : Rules) (k : ℕ) : Type 0 where
  pub book : s.book ≡ b
  pub next : s.next ≡ k
  pub within : k ≤ rule_count (program_of b)
