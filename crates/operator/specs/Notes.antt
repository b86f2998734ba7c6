-- What is noted of the objects, and when the notes say what an operator derives. Assumes nothing.
use Rattle.std.specs.Prelude.{◌≡◌, ℕ, ◌-◌, ◌<◌, Bool, true, false, cond, Some, None, Option, nat_lt, slice_index_or}
use Rattle.book.specs.Program.{Program}
use Rattle.operator.specs.Operator.{Derived}
use Rattle.operator.specs.declared.notes.Notes.{Notes}

-- flag i of the atoms, or flag i - n of the bodies
abbrev pub side : ℕ → (ℕ → Bool → Bool) → (ℕ → Bool → Bool) → ℕ → Bool
side n atom body i = elim (nat_lt i n) [ true ↦ atom i false | false ↦ body (i - n) false ]

-- the mark of an object that is to be in, or out, or neither; none where it is to be both
abbrev pub code : Bool → Bool → Option ℕ
code inn out = cond inn (cond out None (Some 2)) (cond out (Some 1) (Some 0))

-- the flags as tests of the objects
abbrev pub tests : Notes → Derived
tests t = record {
  atom_in = λ a. slice_index_or t.atom_in a false;
  atom_out = λ a. slice_index_or t.atom_out a false;
  body_in = λ r. slice_index_or t.body_in r false;
  body_out = λ r. slice_index_or t.body_out r false;
}

-- the notes say what is derived, of all atoms and of the bodies below k
pub record Noted (b : Program) (k : ℕ) (t : Notes) (d : Derived) : Type 0 where
  pub atom_in : (a : ℕ) → a < b.atoms → (tests t).atom_in a ≡ d.atom_in a
  pub atom_out : (a : ℕ) → a < b.atoms → (tests t).atom_out a ≡ d.atom_out a
  pub body_in : (r : ℕ) → r < k → (tests t).body_in r ≡ d.body_in r
  pub body_out : (r : ℕ) → r < k → (tests t).body_out r ≡ d.body_out r
