use Rattle.std.proofs.Common.{◌≡◌, ℕ, List, length-set, ap, sym, ◌∙◌, arith, rules}
use Rattle.std.proofs.lemmas.List.{get_or-replicate}
use Rattle.book.specs.Program.{Program}
use Rattle.book.proofs.Handing.{handed}
use Rattle.book.proofs.Holding.{valid_book}
use Rattle.operator.specs.Operator.{body_is_out}
use Rattle.operator.specs.Marks.{program_under, marks_in}
use Rattle.operator.proofs.Backwards.{live_none, live_most, live_more, live_same}
use Rattle.operator.proofs.backward.live_rules.Goals as goal
use Rattle.operator.proofs.backward.live_rules.Goals.{then-not-has, else-not-has}

pub loop-k-init : goal.loop-k-init
loop-k-init c =
    let few = (valid_book c.args.page.now.book.now).limited.atoms in
    record {
      at = search rules;
      counted = λ a l. live_none (program_under c.args.page.now) (marks_in c.args.page.now) a (get_or-replicate 128 a 0 0 (omega arith));
      long = search rules;
    }

pub overflow_add-counts : goal.overflow_add-counts
overflow_add-counts c =
    let h = handed c.args.page.now.book.now c.loop-k.rule-iterator c.next.new.self c.loop-k.k c.in-Some.rule c.loop-k.invariant.at c.in-Some.ensures.steps in
    let u = c.loop-k.invariant.counted c.in-Some.rule.head h.0.head in
    let v = live_most (program_under c.args.page.now) (marks_in c.args.page.now) c.in-Some.rule.head c.loop-k.k in
    omega arith

pub loop-k-preserved : goal.loop-k-preserved
loop-k-preserved c =
    let b : Program = program_under c.args.page.now in
    let p : List ℕ = marks_in c.args.page.now in
    let m = c.loop-k.invariant.long in
    let h = handed c.args.page.now.book.now c.loop-k.rule-iterator c.next.new.self c.loop-k.k c.in-Some.rule c.loop-k.invariant.at c.in-Some.ensures.steps in
    let o : c.has.result ≡ body_is_out (program_under c.args.page.now) (marks_in c.args.page.now) c.loop-k.k = search rules in
    record {
      at = h.1;
      counted = λ a l.
          elim c.if-not-has.branch [
            | then-not-has w ↦ rw w.counts-is (live_more b p c.in-Some.rule.head c.loop-k.k a c.loop-k.counts (ap (λ x. x.head) h.0.rule) (omega arith) (sym o ∙ w.if-not-has.true) (c.loop-k.invariant.counted a l))
            | else-not-has w ↦ rw w.counts-is (live_same b p c.loop-k.k a _ (sym o ∙ w.if-not-has.false) (c.loop-k.invariant.counted a l))
          ];
      long =
          elim c.if-not-has.branch [
            | then-not-has w ↦ rw w.counts-is (length-set c.loop-k.counts c.in-Some.rule.head _ ∙ c.loop-k.invariant.long)
            | else-not-has w ↦ rw w.counts-is c.loop-k.invariant.long
          ];
    }
