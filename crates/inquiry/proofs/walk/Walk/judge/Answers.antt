use Rattle.std.proofs.Common.{true, false, rules}
use Rattle.book.specs.Reading.{program_of}
use Rattle.inquiry.proofs.Judging.{front_sheet, judged_open, judged_full}
use Rattle.inquiry.proofs.walk.Walk.judge.Goals as goal

pub returns-in-Some : goal.returns-in-Some
returns-in-Some c =
    judged_open (program_of c.args.book.now) c.args.self.now.page _ c.atoms-n.ensures.atoms (search rules) c.args.cursor.now _ c.if-is_behind.ensures c.in-Some.ensures

pub is_answer_set-requires : goal.is_answer_set-requires
is_answer_set-requires c =
    front_sheet (program_of c.args.book.now) c.args.self.now.page _ c.atoms-n.ensures.atoms (search rules) _ c.marked_sheet-sheet.ensures

pub returns-then-is_answer_set : goal.returns-then-is_answer_set
returns-then-is_answer_set c =
    judged_full (program_of c.args.book.now) c.args.self.now.page _ c.atoms-n.ensures.atoms (search rules) c.args.cursor.now _ c.if-is_behind.ensures c.in_default.ensures c.marked_sheet-sheet.ensures true c.if-is_answer_set.ensures

pub returns-else-is_answer_set : goal.returns-else-is_answer_set
returns-else-is_answer_set c =
    judged_full (program_of c.args.book.now) c.args.self.now.page _ c.atoms-n.ensures.atoms (search rules) c.args.cursor.now _ c.if-is_behind.ensures c.in_default.ensures c.marked_sheet-sheet.ensures false c.if-is_answer_set.ensures
