use Rattle.std.proofs.Common.{◌≡◌}
use Rattle.book.specs.Reading.{program_of}
use Rattle.operator.specs.Page.{object_count, Page, opens}
use Rattle.operator.specs.Layer.{until_rest}
use Rattle.layers.proofs.until_rest.UntilRestOperator.apply.Given as goal

abbrev pub invariant-loop-before : goal.invariant-loop-before
invariant-loop-before g l =
    let f = g.O.Operator.meaning l.initial.self.below in
    record {
      page : Page (program_of l.book) l.page;
      same : g.O.Operator.meaning l.self.below ≡ f;
      comes_to : until_rest f (program_of l.book) l.page ≡ until_rest f (program_of l.book) l.initial.page;
    }

abbrev pub decreases-loop-before : goal.decreases-loop-before
decreases-loop-before g l = opens (object_count (program_of l.book)) l.page
