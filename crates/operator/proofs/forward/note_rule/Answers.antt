use Rattle.std.proofs.Common.{◌≡◌, ℕ, List, ap, rules}
use Rattle.book.specs.Program.{Program}
use Rattle.operator.specs.Operator.{body_is_in, body_is_out}
use Rattle.operator.specs.Marks.{program_under, marks_in}
use Rattle.operator.proofs.Forwards.{forward_in, forward_out, forward_body_in, forward_body_out}
use Rattle.operator.proofs.forward.note_rule.Goals as goal

pub returns : goal.returns
returns c =
    let b : Program = program_under c.args.page.now in
    let p : List ℕ = marks_in c.args.page.now in
    let t = c.args.notes.now in
    let k = c.args.k in
    let h = c.args.rule.head in
    let r = c.requires.rule.rule in
    let head = ap (λ x. x.head) r in
    let ps = ap (λ x. x.positives) r in
    let ns = ap (λ x. x.negatives) r in
    let i : c.has.result ≡ body_is_in (program_under c.args.page.now) (marks_in c.args.page.now) c.args.k = search rules in
    let o : c.has-2.result ≡ body_is_out (program_under c.args.page.now) (marks_in c.args.page.now) c.args.k = search rules in
    record {
      atom_in = forward_in b p k h t c.requires.before head _ (search rules) i;
      atom_out = forward_out b p k h t c.requires.before head _ (search rules) o;
      body_in = forward_body_in b p k h t c.requires.before head c.all_satisfied.result _ _ _ _ (search rules) c.all_satisfied.ensures c.survey-positives.ensures.all c.survey-negatives.ensures.all ps ns;
      body_out = forward_body_out b p k h t c.requires.before head c.some_failed.result _ _ _ _ (search rules) c.some_failed.ensures c.survey-positives.ensures.some c.survey-negatives.ensures.some ps ns;
    }
