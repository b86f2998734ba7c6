use Rattle.std.proofs.Common.{◌≡◌, ℕ, ◌<◌, length}
use Rattle.book.specs.declared.book.rules.Rule.{Rule}
use Rattle.book.specs.Handing.{IsRule, AtRule}
use Rattle.answer.specs.Flags.{flagged}
use Rattle.answer.proofs.flags.rule_flags.Given as goal

abbrev pub invariant-loop-k : goal.invariant-loop-k
invariant-loop-k g l = record {
  at : AtRule l.book l.rule-iterator l.k;
  before : (r : ℕ) → r < l.k → (x : Rule) × IsRule l.book r x × goal.F-post g l.test r x (flagged l.flags r);
  long : length l.flags ≡ 256;
}
