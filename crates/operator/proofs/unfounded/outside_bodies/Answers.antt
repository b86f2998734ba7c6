use Rattle.std.proofs.Common.{◌≡◌, not, rules, ap, ◌∙◌}
use Rattle.book.specs.Layout.{words}
use Rattle.answer.specs.Tests.{each_of}
use Rattle.answer.specs.Flags.{flagged}
use Rattle.operator.proofs.unfounded.outside_bodies.Goals as goal

pub returns : goal.returns
returns c k l =
    let (x, r, q) = c.rule_flags.ensures k l in
    let v : flagged c.rule_flags.result k ≡ not (each_of (flagged c.args.inside.now) (words x.positives.now)) = search rules in
    v ∙ ap (λ r. not (each_of (flagged c.args.inside.now) r.positives)) r.rule
