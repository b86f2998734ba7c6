-- Where the fields of a book stand in its bytes, and the program that they hold. Assumes nothing.
use Rattle.std.specs.Prelude.{ℕ, zero, suc, ◌+◌, ◌*◌, ◌/◌, List, map, length, take, drop, slice_index}
use Rattle.std.specs.List.{range_with_len}
use Rattle.book.specs.Program.{ProgramRule, Program}

-- the two-byte number at byte i, low byte first
abbrev pub word : List ℕ → ℕ → ℕ
word bs i = slice_index bs i + 256 * slice_index bs (i + 1)

-- the three counts
abbrev pub atoms_in : List ℕ → ℕ
atoms_in bs = word bs 0

abbrev pub rules_in : List ℕ → ℕ
rules_in bs = word bs 2

abbrev pub literals_in : List ℕ → ℕ
literals_in bs = word bs 4

-- the length that the counts ask for
abbrev pub length_asked : List ℕ → ℕ
length_asked bs = 6 + 6 * rules_in bs + 2 * literals_in bs

-- the byte at which the entry of rule k begins, and its fields
abbrev pub entry_from : ℕ → ℕ
entry_from k = 6 + 6 * k

abbrev pub head_at : List ℕ → ℕ → ℕ
head_at bs k = word bs (entry_from k)

abbrev pub place_at : List ℕ → ℕ → ℕ
place_at bs k = word bs (entry_from k + 2)

abbrev pub positives_at : List ℕ → ℕ → ℕ
positives_at bs k = slice_index bs (entry_from k + 4)

abbrev pub negatives_at : List ℕ → ℕ → ℕ
negatives_at bs k = slice_index bs (entry_from k + 5)

abbrev pub count_at : List ℕ → ℕ → ℕ
count_at bs k = positives_at bs k + negatives_at bs k

-- how many literals the entries below k claim
unfoldable pub claimed_below : List ℕ → ℕ → ℕ
claimed_below bs zero = 0
claimed_below bs (suc k) = claimed_below bs k + count_at bs k

-- the byte of literal j of the bodies, and its atom
abbrev pub literal_from : List ℕ → ℕ → ℕ
literal_from bs j = entry_from (rules_in bs) + 2 * j

abbrev pub literal_at : List ℕ → ℕ → ℕ
literal_at bs j = word bs (literal_from bs j)

-- the bytes of the two parts of the body of rule k
abbrev pub positive_part : List ℕ → ℕ → List ℕ
positive_part bs k = take (2 * positives_at bs k) (drop (literal_from bs (place_at bs k)) bs)

abbrev pub negative_part : List ℕ → ℕ → List ℕ
negative_part bs k = take (2 * negatives_at bs k) (drop (literal_from bs (place_at bs k + positives_at bs k)) bs)

-- the atoms of a part, two bytes each
unfoldable pub words : List ℕ → List ℕ
words part = map (λ i. word part (2 * i)) (range_with_len 0 (length part / 2))

-- the program that the bytes of a book hold
abbrev pub decode_rule : List ℕ → ℕ → ProgramRule
decode_rule bs k =
    record { head = head_at bs k; positives = words (positive_part bs k); negatives = words (negative_part bs k) }

unfoldable pub decode : List ℕ → Program
decode bs = record { atoms = atoms_in bs; rules = map (decode_rule bs) (range_with_len 0 (rules_in bs)) }
