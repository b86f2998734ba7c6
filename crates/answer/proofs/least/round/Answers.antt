use Rattle.std.proofs.Common.{◌≡◌, ℕ, Bool, List, true, false, length, refl, subst, rules}
use Rattle.std.proofs.lemmas.Bool.{both_ways}
use Rattle.book.specs.Program.{ProgramRule, Program}
use Rattle.book.specs.Reading.{program_of}
use Rattle.answer.specs.Flags.{flagged}
use Rattle.answer.specs.Rounds.{Added}
use Rattle.answer.proofs.Rounds.{went_given, went_left}
use Rattle.book.proofs.Handing.{handed}
use Rattle.answer.proofs.least.round.Goals as goal
use Rattle.answer.proofs.least.round.Goals.{then-used-k+then-add_head, else-used-k, else-used-k-via-then-used-k+else-add_head, else-used-k-via-else-used-k}

pub loop-k-preserved : goal.loop-k-preserved
loop-k-preserved c =
    let b = c.args.book.now in
    let p : Program = program_of b in
    let u : ℕ → Bool = flagged c.args.used.now in
    let k = c.loop-k.k in
    let zs : List Bool = c.loop-k.flags in
    let h = handed b c.loop-k.rule-iterator c.next.new.self k c.in-Some.rule c.loop-k.invariant.at c.in-Some.ensures.steps in
    let m : length c.loop-k.flags ≡ 128 = search rules in
    let w = c.loop-k.invariant.went in
    record {
      at = h.1;
      went =
          elim c.if-used-k.branch [
            | then-used-k+then-add_head v ↦
                rw (v.joined-is, v.flags-is)
                (went_given p u k _ zs _ c.loop-k.joined h.0.within m w v.if-used-k.true (subst (λ (r : ProgramRule). Added r zs true v.add_head.new.flags) h.0.rule v.if-add_head.ensures))
            | else-used-k v ↦
                rw (v.joined-is, v.flags-is)
                (elim v.else-used-k.branch [
                  | else-used-k-via-then-used-k+else-add_head x ↦
                      let d = subst (λ (r : ProgramRule). Added r zs false x.add_head.new.flags) h.0.rule x.if-add_head.ensures in
                      rw x.flags-is (went_left p u k _ zs _ c.loop-k.joined w d.0 (λ _. d.1))
                  | else-used-k-via-else-used-k x ↦
                      rw x.flags-is (went_left p u k _ zs _ c.loop-k.joined w refl (λ e. absurd (both_ways _ x.if-used-k.false e)))
                ])
          ];
    }
