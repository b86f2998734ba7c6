-- What until-rest comes to. Assumes nothing.
use Rattle.std.specs.Prelude.{◌≡◌, ℕ, List}
use Rattle.book.specs.Program.{Program, Valid}
use Rattle.operator.specs.Page.{Page, marked, Meaning, Lawful}
use Rattle.operator.specs.Layer.{until_rest}

-- over any lawful operator it comes to rest: the operator leaves the page that it made as it is
abbrev pub ComesToRest : Type 0
ComesToRest =
    (f : Meaning) → Lawful f → (b : Program) (p q : List ℕ) → Valid b → Page b p → until_rest f b p ≡ marked q → f b q ≡ marked q
