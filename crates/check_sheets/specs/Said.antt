-- What the program says of a sheet, and how a sheet is written among the arguments. Assumes nothing.
use Rattle.std.specs.Prelude.{◌≡◌, ℕ, cond, List, ◌++◌, Some, None, codes, decimal, ◌==◌}
use Rattle.book.specs.Program.{Program}
use Rattle.book.specs.Refusal.{cause_number}
use Rattle.answer.specs.Answer.{Answer}
use Rattle.answer.specs.Fault.{sheet_fault}
use Rattle.check_sheets.specs.declared.finding.Finding.{Finding}
use Rattle.check_sheets.specs.declared.finding.Finding.TheVariants.{AnswerSet, NoAnswerSet, Declined}

-- the words that a finding is printed by
abbrev pub said : Finding → List ℕ
said AnswerSet = codes "answer set"
said NoAnswerSet = codes "no answer set"
said (Declined r) = codes "fault " ++ (decimal (cause_number r.cause) ++ (codes " " ++ decimal r.place))

-- the byte of a sheet that a character stands for: a character that is neither 0 nor 1 stands for a byte that is declined
abbrev pub value : ℕ → ℕ
value c = cond (c == 48) 0 (cond (c == 49) 1 2)

-- the finding is right: an answer set, a sheet that is none, or bytes that are declined
abbrev pub Finds : Program → List ℕ → Finding → Type 0
Finds p s AnswerSet = Answer p s
Finds p s NoAnswerSet = (sheet_fault p.atoms s ≡ None) × (Answer p s → ⊥)
Finds p s (Declined r) = sheet_fault p.atoms s ≡ Some r
