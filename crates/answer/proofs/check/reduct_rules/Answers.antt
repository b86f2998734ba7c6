use Rattle.std.proofs.Common.{◌≡◌, rules, ap, ◌∙◌}
use Rattle.book.specs.Layout.{words}
use Rattle.answer.specs.Tests.{each_of}
use Rattle.answer.specs.Flags.{flagged}
use Rattle.answer.proofs.check.reduct_rules.Goals as goal

pub returns : goal.returns
returns c k l =
    let (x, r, q) = c.rule_flags.ensures k l in
    let v : flagged c.rule_flags.result k ≡ each_of (flagged c.args.out.now) (words x.negatives.now) = search rules in
    v ∙ ap (λ r. each_of (flagged c.args.out.now) r.negatives) r.rule
