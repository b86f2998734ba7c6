use Rattle.std.proofs.Common.{ℕ, Bool, List, ◌∙◌, arith}
use Rattle.book.specs.Program.{Program}
use Rattle.book.specs.Reading.{program_of}
use Rattle.book.proofs.Holding.{valid_book}
use Rattle.answer.specs.Answer.{reduct, Least}
use Rattle.answer.specs.Flags.{flagged}
use Rattle.answer.proofs.Sheets.{least_like, reduct_by, answer_decides}
use Rattle.answer.proofs.check.is_answer_set.Goals as goal

pub returns : goal.returns
returns c =
    let p : Program = program_of c.args.book.now in
    let s : List ℕ = c.args.sheet.now in
    let out : ℕ → Bool = flagged c.outside_atoms-out.result in
    let used : ℕ → Bool = flagged c.reduct_rules-used.result in
    let t : ℕ → Bool = flagged c.least_atoms-least.result in
    let L : Least p (reduct p s) t =
    least_like p used (reduct p s) t (λ r l. c.reduct_rules-used.ensures r l ∙ reduct_by p s out (valid_book c.args.book.now) c.outside_atoms-out.ensures r l)
    c.least_atoms-least.ensures in
    answer_decides p s t (valid_book c.args.book.now).proper c.requires L c.same_atoms.result (rw c.requires.long at c.same_atoms.ensures)

pub same_atoms-requires : goal.same_atoms-requires
same_atoms-requires c = let n = (valid_book c.args.book.now).limited.atoms in omega (arith, c.requires.long)
