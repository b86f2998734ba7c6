use Rattle.book.proofs.Holding.{valid_book}
use Rattle.book.proofs.book.Book.atoms.Goals as goal

pub returns-clause-valid : goal.returns-clause-valid
returns-clause-valid c = valid_book c.args.self.now
