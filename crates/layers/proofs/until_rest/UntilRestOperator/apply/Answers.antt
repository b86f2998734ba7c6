use Rattle.std.proofs.Common.{◌≡◌, ℕ, List, rules, ◌∙◌}
use Rattle.book.specs.Program.{Program}
use Rattle.book.specs.Reading.{program_of}
use Rattle.operator.specs.Page.{Meaning}
use Rattle.operator.specs.Layer.{until_rest}
use Rattle.layers.proofs.Pages.{not_declined, page_left}
use Rattle.layers.proofs.Resting.{turn_falls, turn_moves}
use Rattle.layers.proofs.until_rest.UntilRestOperator.apply.Goals as goal

pub unwrap-requires : goal.unwrap-requires
unwrap-requires g c = not_declined _ _ c.apply.result c.loop-before.invariant.page c.apply.ensures.declines

pub loop-before-smaller : goal.loop-before-smaller
loop-before-smaller g c =
    let h : Meaning = g.O.Operator.meaning c.loop-before.self.below in
    turn_falls h (g.met.O.Operator.lawful c.loop-before.self.below) c.args.book.now c.loop-before.page c.apply.new.page c.loop-before.invariant.page (search rules) (search rules)

pub loop-before-preserved : goal.loop-before-preserved
loop-before-preserved g c =
    let b : Program = program_of c.args.book.now in
    let p : List ℕ = c.loop-before.page in
    let q : List ℕ = c.apply.new.page in
    let h : Meaning = g.O.Operator.meaning c.loop-before.self.below in
    let L = g.met.O.Operator.lawful c.loop-before.self.below in
    let e : until_rest h b q ≡ until_rest h b p = turn_moves h L c.args.book.now p q c.loop-before.invariant.page (search rules) (search rules) in
    record {
      page = page_left h L c.args.book.now p q c.apply.result c.loop-before.invariant.page c.apply.ensures.applied;
      same = c.apply.ensures.same ∙ c.loop-before.invariant.same;
      comes_to = rw c.loop-before.invariant.same at e ∙ c.loop-before.invariant.comes_to;
    }
