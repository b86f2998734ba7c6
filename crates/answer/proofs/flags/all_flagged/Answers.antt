use Rattle.std.proofs.Common.{rules, ◌∙◌, ap}
use Rattle.answer.specs.Tests.{each_of}
use Rattle.answer.specs.Flags.{flagged}
use Rattle.answer.proofs.Chains.{all_is}
use Rattle.answer.proofs.flags.all_flagged.Goals as goal

pub returns : goal.returns
returns c =
    all_is _ _ (flagged c.args.flags.now) (λ x b q k. search rules) c.of.result c.all.new.self c.all.result c.all.ensures.ran
    ∙ ap (each_of (flagged c.args.flags.now)) c.of.ensures
