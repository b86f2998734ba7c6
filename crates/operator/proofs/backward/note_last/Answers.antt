use Rattle.std.proofs.Common.{◌∙◌, arith}
use Rattle.book.specs.Layout.{words}
use Rattle.book.proofs.Holding.{valid_book}
use Rattle.operator.specs.Marks.{marks_in}
use Rattle.operator.proofs.Backwards.{lone_below}
use Rattle.operator.proofs.backward.note_last.Goals as goal

pub note_lone-requires : goal.note_lone-requires
note_lone-requires c a e =
    let n = (valid_book c.args.page.now.book.now).limited.atoms in
    let l = lone_below _ (marks_in c.args.page.now) 1 a (words c.args.rule.negatives.now) c.requires.neg (c.survey-neg.ensures.only a ∙ e) in
    omega arith

pub note_lone-requires-then-set : goal.note_lone-requires-then-set
note_lone-requires-then-set c a e =
    let n = (valid_book c.args.page.now.book.now).limited.atoms in
    let l = lone_below _ (marks_in c.args.page.now) 2 a (words c.args.rule.positives.now) c.requires.pos (c.survey-pos.ensures.only a ∙ e) in
    omega arith
