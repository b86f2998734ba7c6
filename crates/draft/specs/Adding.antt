-- How a draft grows by a rule, and the rules that it declines. Assumes nothing.
use Rattle.std.specs.Prelude.{ℕ, ◌+◌, ◌-◌, ◌<◌, ◌≤◌, cond, List, [], ◌∷◌, ◌++◌, length, Some, None, Option, ◌==◌, nat_le, nat_lt, slice_index, refl}
use Rattle.book.specs.declared.refusal.Cause.TheVariants.{Limit, Head, Full}
use Rattle.book.specs.declared.refusal.Refusal.{Refusal}
use Rattle.book.specs.Refusal.{refuse}
use Rattle.book.specs.First.{first, or_else}
use Rattle.book.specs.Diagnosis.{literal_fault_of}
use Rattle.book.specs.Program.{ProgramRule, Program, rule_count, width, total, ProperRule}

-- the rule of a head and the two parts of a body
abbrev pub rule_by : ℕ → List ℕ → List ℕ → ProgramRule
rule_by h ps ns = record { head = h; positives = ps; negatives = ns }

-- the program with one more rule, after all the others
abbrev pub with_rule : Program → ProgramRule → Program
with_rule p r = record { atoms = p.atoms; rules = p.rules ++ (r ∷ []) }

-- a draft for n atoms
abbrev pub start_fault : ℕ → Option Refusal
start_fault n = cond (nat_lt 128 n) (Some (refuse 2 Limit refl 0)) None

-- a head h over n atoms
abbrev pub rule_head_fault : (n h : ℕ) → Option Refusal
rule_head_fault n h = cond (nat_lt h n) None (Some (refuse 4 Head refl 0))

-- a rule that there is no room for
abbrev pub no_room : Option Refusal
no_room = Some (refuse 10 Full refl 0)

-- parts of x and y atoms, beside m rules that have b literals
abbrev pub room_fault : (m b x y : ℕ) → Option Refusal
room_fault m b x y =
    cond (nat_lt m 256) (cond (nat_le x 255) (cond (nat_le y 255) (cond (nat_le (b + (x + y)) 2048) None no_room) no_room) no_room) no_room

-- literal i of a part over n atoms, where the literals of the rule before the part are s
abbrev pub part_literal_fault : (n s : ℕ) → List ℕ → ℕ → Option Refusal
part_literal_fault n s xs i = literal_fault_of n (s + i) (i == 0) (slice_index xs (i - 1)) (slice_index xs i)

-- the first literal of a part that breaks a condition
abbrev pub part_fault : (n s : ℕ) → List ℕ → Option Refusal
part_fault n s xs = first (part_literal_fault n s xs) (length xs)

-- a rule r for a program p: its head, the room for it, then its literals, the positive part first
abbrev pub add_fault : Program → ProgramRule → Option Refusal
add_fault p r =
    or_else (rule_head_fault p.atoms r.head)
    (or_else (room_fault (rule_count p) (total p.rules) (length r.positives) (length r.negatives))
    (or_else (part_fault p.atoms 0 r.positives) (part_fault p.atoms (length r.positives) r.negatives)))

-- what a rule keeps that is not declined
pub record Addable (p : Program) (r : ProgramRule) : Type 0 where
  pub proper : ProperRule p.atoms r
  pub rules : rule_count p < 256
  pub positives : length r.positives ≤ 255
  pub negatives : length r.negatives ≤ 255
  pub literals : total p.rules + width r ≤ 2048
