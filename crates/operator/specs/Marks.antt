-- The marks of a book's objects, as an operator reads them. Assumes nothing.
use Rattle.std.specs.Prelude.{ℕ, Bool, List, ◌==◌, slice_index}
use Rattle.book.specs.Program.{Program}
use Rattle.book.specs.Reading.{program_of}
use Rattle.operator.specs.declared.marks.Marks.{Marks}

-- the program of the book, and the marks of its objects
abbrev pub program_under : Marks → Program
program_under m = program_of m.book.now

abbrev pub marks_in : Marks → List ℕ
marks_in m = m.page.now

-- the object has the mark
abbrev pub met : List ℕ → ℕ → ℕ → Bool
met p m i = slice_index p i == m
