use Rattle.std.proofs.Common.{◌≡◌}
use Rattle.book.specs.Reading.{program_of}
use Rattle.operator.specs.Layer.{looked}
use Rattle.layers.proofs.lookahead.LookaheadOperator.apply.Given as goal

abbrev pub invariant-loop-i : goal.invariant-loop-i
invariant-loop-i g l = record {
  same : g.O.Operator.meaning l.self.below ≡ g.O.Operator.meaning l.initial.self.below;
  looked : l.page ≡ looked l.i (g.O.Operator.meaning l.initial.self.below) (program_of l.book) l.initial.page;
}
