use Rattle.std.proofs.Common.{◌≡◌, ℕ, List, ◌≤◌, get_or, set, arith, rules, ◌∙◌}
use Rattle.std.proofs.lemmas.Bool.Decides.{nat_tests}
use Rattle.book.specs.Program.{Program}
use Rattle.book.specs.Reading.{program_of}
use Rattle.operator.specs.Page.{Page, Meaning}
use Rattle.operator.specs.Pages.{page_set}
use Rattle.layers.proofs.Pages.{not_declined}
use Rattle.layers.proofs.Looking.{looked_page, looked_more}
use Rattle.layers.proofs.lookahead.LookaheadOperator.apply.Goals as goal

pub unwrap-requires : goal.unwrap-requires
unwrap-requires g c =
    let b : Program = program_of c.args.book.now in
    let i : ℕ = c.loop-i.i in
    let m : ℕ = c.marks_of-trial.result.0 in
    let G : Page b c.loop-i.page = looked_page _ (g.met.O.Operator.lawful c.args.self.now.below) c.args.book.now i c.args.page.now _ c.in_ok-check_page.ensures.page (omega arith) c.loop-i.invariant.looked in
    let low : m ≤ 2 = rw c.marks_of-trial.ensures (grind (arith, nat_tests)) in
    let T : Page b (set c.loop-i.page i m) = page_set b c.loop-i.page i m G low in
    search (rules, not_declined b)

pub loop-i-preserved : goal.loop-i-preserved
loop-i-preserved g c =
    let b : Program = program_of c.args.book.now in
    let i : ℕ = c.loop-i.i in
    let p : List ℕ = c.loop-i.page in
    let h : Meaning = g.O.Operator.meaning c.loop-i.self.below in
    let G : Page b p = looked_page _ (g.met.O.Operator.lawful c.args.self.now.below) c.args.book.now i c.args.page.now _ c.in_ok-check_page.ensures.page (omega arith) c.loop-i.invariant.looked in
    let z : get_or p i 0 ≡ 0 = omega (arith, G.marks i) in
    record {
      same = c.apply.ensures.same ∙ c.loop-i.invariant.same;
      looked =
          looked_more h _ b i _ p c.if-eq.page c.eq.result c.loop-i.invariant.same c.loop-i.invariant.looked z (search rules) (search rules);
    }
