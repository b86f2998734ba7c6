use Rattle.std.proofs.Common.{rules}
use Rattle.book.specs.Reading.{program_of}
use Rattle.inquiry.specs.View.{cursor_of}
use Rattle.inquiry.proofs.Fresh.{fresh_view}
use Rattle.inquiry.proofs.state.State.restart.Goals as goal

pub returns : goal.returns
returns c = rw c.copy_from_slice.ensures.after (fresh_view (program_of c.args.book.now) (cursor_of (program_of c.args.book.now).atoms c.args.self.now.cursor) c.args.self.now.wishes _ c.atoms-n.ensures.valid c.atoms-n.ensures.atoms (search rules))
