use Rattle.std.proofs.Common.{Some, sym, ap, ◌∙◌, ap₂, ◌++◌, drop, take, rules}
use Rattle.book.specs.Reading.{program_of}
use Rattle.inquiry.proofs.Judging.{page_sheet}
use Rattle.inquiry.proofs.state.State.hand.Goals as goal

pub returns-clause-sheet : goal.returns-clause-sheet
returns-clause-sheet c =
    let e = c.atoms-n.ensures.atoms in
    ap₂ ◌++◌ (c.copy_from_slice.ensures.after ∙ page_sheet (program_of c.args.book.now) c.args.self.now.walk.page _ e (search rules) c.marked_sheet-sheet.result c.marked_sheet-sheet.ensures) (ap (λ k. drop k c.args.buffer.now) e)

pub returns-clause-cursor : goal.returns-clause-cursor
returns-clause-cursor c =
    let e = c.atoms-n.ensures.atoms in
    ap Some (ap (λ k. take k c.marked_sheet-sheet.result) (sym e) ∙ page_sheet (program_of c.args.book.now) c.args.self.now.walk.page _ e (search rules) c.marked_sheet-sheet.result c.marked_sheet-sheet.ensures)
