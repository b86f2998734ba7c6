use Rattle.std.proofs.Common.{rules}
use Rattle.inquiry.specs.declared.walk.Side.TheVariants.{Out}
use Rattle.inquiry.specs.declared.walk.Walk.{Walk}
use Rattle.inquiry.proofs.Tables.{put_walk}
use Rattle.inquiry.proofs.walk.Walk.choose.Goals as goal

pub returns : goal.returns
returns c = λ z.
    let w : Walk = c.args.self.now in
    put_walk z w.levels c.args.depth (record { atom = c.args.atom; side = Out; page = w.page }) w.page c.args.atom 1 (search rules)
