use Rattle.std.proofs.Common.{ℕ, List, sym, ◌∙◌, arith, rules}
use Rattle.inquiry.specs.declared.walk.Level.{Level}
use Rattle.inquiry.specs.declared.walk.Side.TheVariants.{In}
use Rattle.inquiry.specs.View.{level_at}
use Rattle.inquiry.proofs.Tables.{put_walk, no_out, latest}
use Rattle.inquiry.proofs.walk.Walk.retreat.Goals as goal

pub returns-in-Some : goal.returns-in-Some
returns-in-Some c = λ z.
    let t : List Level = c.args.self.now.levels in
    let d : ℕ = c.in-Some.latest in
    let h = latest z t c.args.depth d (search rules) c.in-Some.ensures in
    put_walk z t d (record { atom = (level_at t d).atom; side = In; page = (level_at t d).page }) (level_at t d).page (level_at t d).atom 2 (omega arith) ∙ sym h.1

pub returns-in-None : goal.returns-in-None
returns-in-None c = λ z. sym (no_out z c.args.self.now.levels c.args.depth (search rules) c.in-None.ensures)
