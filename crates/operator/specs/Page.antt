-- Pages of marks, what fits them, and the law of an operator. Assumes nothing.
use Rattle.std.specs.Prelude.{◌≡◌, ℕ, ◌+◌, ◌-◌, ◌<◌, ◌≤◌, Bool, true, false, List, length, ◌==◌, ◌≢◌, nat_lt, slice_index}
use Rattle.book.specs.Program.{Program, rule_count, nth_rule, Valid}
use Rattle.answer.specs.Tests.{how_many}
use Rattle.answer.specs.Answer.{Answer, inside, holds}

-- the objects of a book are its atoms and then the bodies of its rules
abbrev pub object_count : Program → ℕ
object_count b = b.atoms + rule_count b

-- a page, in the field a partial assignment: one mark an object, 0 for open, 1 for out and 2 for in
pub record Page (b : Program) (p : List ℕ) : Type 0 where
  pub long : length p ≡ object_count b
  pub marks : (i : ℕ) → slice_index p i ≤ 2

abbrev pub is_open : List ℕ → ℕ → Bool
is_open p i = slice_index p i == 0

abbrev pub is_out : List ℕ → ℕ → Bool
is_out p i = slice_index p i == 1

abbrev pub is_in : List ℕ → ℕ → Bool
is_in p i = slice_index p i == 2

-- how many of the first n marks are open
abbrev pub opens : ℕ → List ℕ → ℕ
opens n p = how_many (is_open p) n

-- a test of object i: of atom i, or of the body of rule i - n
abbrev pub object : Program → (ℕ → Bool) → (ℕ → Bool) → ℕ → Bool
object b atom body i = elim (nat_lt i b.atoms) [ true ↦ atom i | false ↦ body (i - b.atoms) ]

-- the atom is in the set of a sheet, or the body holds in it
abbrev pub true_in : Program → List ℕ → ℕ → Bool
true_in b s = object b (inside s) (λ r. holds s (nth_rule b r))

-- the set fits the page: the objects marked in are true in it, and those marked out are not
pub record Fits (b : Program) (p s : List ℕ) : Type 0 where
  pub has : (i : ℕ) → is_in p i ≡ true → true_in b s i ≡ true
  pub lacks : (i : ℕ) → is_out p i ≡ true → true_in b s i ≢ true

-- growth: no mark of 1 or 2 is altered
abbrev pub Grows : List ℕ → List ℕ → Type 0
Grows p q = (i : ℕ) → 0 < slice_index p i → slice_index q i ≡ slice_index p i

-- an operator makes a page of a page, or clashes, in the field a conflict
pub data Outcome : Type 0 where
  clash : Outcome
  marked : List ℕ → Outcome

-- the meaning of an operator, in the field a propagation operator
abbrev pub Meaning : Type 0
Meaning = Program → List ℕ → Outcome

-- the page q follows from the page p: it has grown, and every answer set that fits p fits q
pub record Follows (b : Program) (p q : List ℕ) : Type 0 where
  pub page : Page b q
  pub growth : Grows p q
  pub sound : (s : List ℕ) → Answer b s → Fits b p s → Fits b q s

-- the law: the page made follows, and a clash comes only if no answer set fits
abbrev pub Allowed : Program → List ℕ → Outcome → Type 0
Allowed b p clash = (s : List ℕ) → Answer b s → Fits b p s → ⊥
Allowed b p (marked q) = Follows b p q

abbrev pub LawfulOn : Program → Meaning → Type 0
LawfulOn b f = (p : List ℕ) → Page b p → Allowed b p (f b p)

-- the law on every book in use and every page of it
abbrev pub Lawful : Meaning → Type 0
Lawful f = (b : Program) → Valid b → LawfulOn b f
