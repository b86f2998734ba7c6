-- The written form of a program: the bytes of its book. Assumes nothing.
use Rattle.std.specs.Prelude.{ℕ, ◌+◌, ◌/◌, ◌%◌, List, [], ◌∷◌, ◌++◌, length}
use Rattle.std.specs.List.{flat_map}
use Rattle.book.specs.Program.{ProgramRule, Program, rule_count, width, total}

-- a number as two bytes, low byte first
abbrev pub two : ℕ → List ℕ
two n = n % 256 ∷ n / 256 ∷ []

abbrev pub twos : List ℕ → List ℕ
twos [] = []
twos (x ∷ xs) = two x ++ twos xs

-- the literals of a body: its positive atoms, then its negative ones
abbrev pub body : ProgramRule → List ℕ
body r = r.positives ++ r.negatives

-- the contents entries of rules whose bodies begin at literal s: head, place and the counts of the two parts
abbrev pub contents : ℕ → List ProgramRule → List ℕ
contents s [] = []
contents s (r ∷ rs) =
    two r.head ++ (two s ++ (length r.positives ∷ length r.negatives ∷ contents (s + width r) rs))

-- all literals, rule by rule
abbrev pub flat : List ProgramRule → List ℕ
flat rs = flat_map body rs

-- the counts of atoms, rules and literals, the contents, and the bodies rule by rule
abbrev pub encode : Program → List ℕ
encode p =
    two p.atoms ++ (two (rule_count p) ++ (two (total p.rules) ++ (contents 0 p.rules ++ twos (flat p.rules))))
