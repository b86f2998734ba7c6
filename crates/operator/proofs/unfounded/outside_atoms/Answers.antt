use Rattle.std.proofs.Common.{not, zero-add, rules}
use Rattle.answer.specs.Flags.{flagged}
use Rattle.answer.proofs.Chains.{made_is}
use Rattle.operator.proofs.unfounded.outside_atoms.Goals as goal

pub returns : goal.returns
returns c a h =
    let m = made_is _ _ (λ a. not (flagged c.args.inside.now a)) (λ x b q k. search rules) c.from_fn.result 0 128 c.from_fn.ensures.items.each a h in
    rw zero-add at m
