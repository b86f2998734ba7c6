use Rattle.std.proofs.Common.{◌≢◌, ◌<◌, length, rules, arith, below_more, get_or-set_same, get_or-set_other}
use Rattle.book.proofs.Handing.{handed, none_handed}
use Rattle.answer.proofs.flags.rule_flags.Goals as goal

pub loop-k-preserved : goal.loop-k-preserved
loop-k-preserved g c =
    let h = handed c.args.book.now c.loop-k.rule-iterator c.next.new.self c.loop-k.k c.in-Some.rule c.loop-k.invariant.at c.in-Some.ensures.steps in
    let l : c.loop-k.k < length c.loop-k.flags = let m = c.loop-k.invariant.long in omega arith in
    record {
      at = h.1;
      before =
          below_more _ _
          (λ r less. let n : r ≢ c.loop-k.k = omega arith in rw get_or-set_other (c.loop-k.invariant.before r less))
          (c.in-Some.rule, h.0, rw get_or-set_same c.test.ensures);
      long = search rules;
    }

pub returns : goal.returns
returns g c k l = c.loop-k.invariant.before k (let m = none_handed _ _ _ _ c.loop-k.invariant.at c.in-None.ensures.steps in omega arith)
