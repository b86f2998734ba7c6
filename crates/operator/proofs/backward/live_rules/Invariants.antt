use Rattle.std.proofs.Common.{◌≡◌, ℕ, ◌<◌, length, get_or}
use Rattle.book.specs.Handing.{AtRule}
use Rattle.operator.specs.Operator.{live}
use Rattle.operator.specs.Marks.{program_under, marks_in}
use Rattle.operator.proofs.backward.live_rules.Given as goal

abbrev pub invariant-loop-k : goal.invariant-loop-k
invariant-loop-k l = record {
  at : AtRule l.page.book.now l.rule-iterator l.k;
  counted : (a : ℕ) → a < (program_under l.page).atoms → get_or l.counts a 0 ≡ live (program_under l.page) (marks_in l.page) a l.k;
  long : length l.counts ≡ 128;
}
