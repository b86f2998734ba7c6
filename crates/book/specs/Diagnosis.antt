-- The first fault of the bytes of a book, if there is one. Assumes nothing.
use Rattle.std.specs.Prelude.{ℕ, ◌+◌, ◌-◌, ◌*◌, min, Bool, true, cond, List, length, Some, None, Option, ◌==◌, nat_le, nat_lt, refl}
use Rattle.std.specs.Option.{option_map}
use Rattle.book.specs.declared.refusal.Cause.TheVariants.{Short, Limit, BookLength, Head, Place, Count, Unclaimed, Range, Order}
use Rattle.book.specs.declared.refusal.Refusal.{Refusal}
use Rattle.book.specs.declared.faults.RuleFault.{RuleFault}
use Rattle.book.specs.declared.faults.BookFault.{BookFault}
use Rattle.book.specs.Refusal.{refuse, in_no_rule, in_rule, in_book}
use Rattle.book.specs.First.{first, or_else}
use Rattle.book.specs.Layout.{atoms_in, rules_in, literals_in, length_asked, entry_from, head_at, place_at, positives_at, count_at, claimed_below, literal_from, literal_at}

-- layer 1: the counts and the length
abbrev pub header_fault : List ℕ → Option Refusal
header_fault bs =
    cond (nat_lt (length bs) 6) (Some (refuse 1 Short refl (length bs)))
    (cond (nat_lt 128 (atoms_in bs)) (Some (refuse 2 Limit refl 0))
    (cond (nat_lt 256 (rules_in bs)) (Some (refuse 2 Limit refl 2))
    (cond (nat_lt 2048 (literals_in bs)) (Some (refuse 2 Limit refl 4))
    (cond (length bs == length_asked bs) None (Some (refuse 3 BookLength refl (min (length bs) (length_asked bs))))))))

-- entry k of a book of n atoms and b literals, by its head h, its place p and its count c, where the entries before
-- it claim s literals
abbrev pub entry_fault_of : (n b s k h p c : ℕ) → Option Refusal
entry_fault_of n b s k h p c =
    cond (nat_lt h n)
    (cond (p == s) (cond (nat_le (p + c) b) None (Some (refuse 6 Count refl (entry_from k + 2)))) (Some (refuse 5 Place refl (entry_from k + 2))))
    (Some (refuse 4 Head refl (entry_from k)))

abbrev pub entry_fault : List ℕ → ℕ → Option Refusal
entry_fault bs k =
    entry_fault_of (atoms_in bs) (literals_in bs) (claimed_below bs k) k (head_at bs k) (place_at bs k) (count_at bs k)

-- the literals that no entry claims, in a book of m rules and b literals whose entries claim s of them
abbrev pub unclaimed_fault_of : (m b s : ℕ) → Option Refusal
unclaimed_fault_of m b s = cond (nat_lt s b) (Some (refuse 7 Unclaimed refl (entry_from m + 2 * s))) None

abbrev pub unclaimed_fault : List ℕ → Option Refusal
unclaimed_fault bs = unclaimed_fault_of (rules_in bs) (literals_in bs) (claimed_below bs (rules_in bs))

-- layer 2: the first m entries
abbrev pub entries_fault : List ℕ → ℕ → Option RuleFault
entries_fault bs m = first (λ k. option_map (in_rule k) (entry_fault bs k)) m

-- a literal a at byte p of a book of n atoms: the first of its part, or one after q
abbrev pub literal_fault_of : (n p : ℕ) → Bool → (q a : ℕ) → Option Refusal
literal_fault_of n p starts q a =
    cond (nat_lt a n) (cond starts None (cond (nat_lt q a) None (Some (refuse 9 Order refl p)))) (Some (refuse 8 Range refl p))

-- literal i of rule k
abbrev pub literal_fault : List ℕ → ℕ → ℕ → Option Refusal
literal_fault bs k i =
    literal_fault_of (atoms_in bs) (literal_from bs (place_at bs k + i)) (cond (i == 0) true (i == positives_at bs k))
    (literal_at bs (place_at bs k + i - 1)) (literal_at bs (place_at bs k + i))

-- layer 3: the bodies of the first m rules
abbrev pub body_fault : List ℕ → ℕ → Option RuleFault
body_fault bs k = option_map (in_rule k) (first (literal_fault bs k) (count_at bs k))

abbrev pub bodies_fault : List ℕ → ℕ → Option RuleFault
bodies_fault bs m = first (body_fault bs) m

-- the layers in their order
abbrev pub layout_fault : List ℕ → Option RuleFault
layout_fault bs =
    or_else (option_map in_no_rule (header_fault bs))
    (or_else (entries_fault bs (rules_in bs)) (or_else (option_map in_no_rule (unclaimed_fault bs)) (bodies_fault bs (rules_in bs))))

abbrev pub diagnose : List ℕ → Option BookFault
diagnose bs = option_map in_book (layout_fault bs)
