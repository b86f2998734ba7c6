use Rattle.std.proofs.Common.{sym, ◌∙◌}
use Rattle.book.proofs.Parts.{words_at, words_past}
use Rattle.book.proofs.book.rules.atom_at.Goals as goal

pub returns-then-i-part : goal.returns-then-i-part
returns-then-i-part c = c.word_at.ensures ∙ sym (words_at c.args.part.now c.args.i c.if-i-part.true)

pub returns-else-i-part : goal.returns-else-i-part
returns-else-i-part c = sym (words_past c.args.part.now c.args.i c.if-i-part.false)
