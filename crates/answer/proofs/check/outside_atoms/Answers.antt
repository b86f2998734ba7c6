use Rattle.std.proofs.Common.{rules, zero-add}
use Rattle.answer.specs.Answer.{outside}
use Rattle.answer.proofs.Chains.{made_is}
use Rattle.answer.proofs.check.outside_atoms.Goals as goal

pub returns : goal.returns
returns c a h =
    let m = made_is _ _ (outside c.args.sheet.now) (λ x b q k. search rules) c.from_fn.result 0 128 c.from_fn.ensures.items.each a h in
    rw zero-add at m
