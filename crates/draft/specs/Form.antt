-- The bytes that a draft would be written as, from what it keeps. Assumes nothing.
use Rattle.std.specs.Prelude.{◌≡◌, ℕ, List, ◌++◌, None}
use Rattle.book.specs.Program.{Program, rule_count, total}
use Rattle.book.specs.Format.{two, encode}
use Rattle.book.specs.Layout.{decode}
use Rattle.book.specs.Diagnosis.{layout_fault}

-- the counts of atoms, rules and literals, then what the two tables hold
unfoldable pub form_by : (n m b : ℕ) → (entries bodies : List ℕ) → List ℕ
form_by n m b entries bodies = two n ++ (two m ++ (two b ++ (entries ++ bodies)))

-- n, m and b are the counts of atoms, rules and literals of a program
abbrev pub Counting : Program → (n m b : ℕ) → Type 0
Counting p n m b = (n ≡ p.atoms) × (m ≡ rule_count p) × (b ≡ total p.rules)

-- the bytes have no fault and are the written form of their program, which has n atoms, m rules and b literals
pub record Formed (bs : List ℕ) (n m b : ℕ) : Type 0 where
  pub counts : Counting (decode bs) n m b
  pub accepted : layout_fault bs ≡ None
  pub form : encode (decode bs) ≡ bs
