-- The program that a draft has collected. Assumes nothing.
use Rattle.std.specs.Prelude.{ℕ, List}
use Rattle.book.specs.Program.{Program}
use Rattle.book.specs.Layout.{decode}
use Rattle.draft.specs.declared.draft.Draft.{Draft}
use Rattle.draft.specs.Filled.{filled}
use Rattle.draft.specs.Form.{form_by}

-- the bytes that a draft would be written as
abbrev pub form_of : Draft → List ℕ
form_of d = form_by d.atoms d.contents.len d.bodies.len (filled d.contents) (filled d.bodies)

-- the number of atoms and the rules that a draft has collected
abbrev pub drafted : Draft → Program
drafted d = decode (form_of d)
