use Rattle.std.proofs.Common.{◌≡◌, ℕ, false, List, get_or, rules}
use Rattle.book.specs.Program.{Program}
use Rattle.book.specs.Reading.{rule_of}
use Rattle.operator.specs.Operator.{body_is_in, body_is_out}
use Rattle.operator.specs.Marks.{program_under, marks_in}
use Rattle.operator.proofs.Backwards.{backward_in, backward_out, backward_body_in, backward_body_out}
use Rattle.operator.proofs.backward.note_rule.Goals as goal

pub returns : goal.returns
returns c =
    let b : Program = program_under c.args.page.now in
    let p : List ℕ = marks_in c.args.page.now in
    let t = c.args.notes.now in
    let k = c.args.k in
    let x = c.args.rule in
    let r = c.requires.rule.rule in
    let i : c.has-is_in.result ≡ body_is_in (program_under c.args.page.now) (marks_in c.args.page.now) c.args.k = search rules in
    let o : c.has-is_out.result ≡ body_is_out (program_under c.args.page.now) (marks_in c.args.page.now) c.args.k = search rules in
    let last = c.note_last.ensures in
    record {
      atom_in = backward_in b p k t (rule_of x) c.requires.before r c.has-is_in.result c.has-is_out.result (λ a. get_or c.note_part.new.flags a false) (λ a. get_or c.note_last.new.notes.atom_in a false) i o c.note_part.ensures last.ins;
      atom_out = backward_out b p k t (rule_of x) c.requires.before r c.has-is_in.result c.has-is_out.result (λ a. get_or c.note_part-2.new.flags a false) (λ a. get_or c.note_last.new.notes.atom_out a false) i o c.note_part-2.ensures last.outs;
      body_in = rw last.body_in (backward_body_in b p k t (rule_of x) c.requires.before r c.is_sole.result c.has-is_out.result (get_or c.args.counts.now x.head 0) c.requires.rule.within (search rules) (rw c.has-head_in.ensures at c.is_sole.ensures) o (c.requires.counts x.head c.requires.rule.head));
      body_out = rw last.body_out (backward_body_out b p k t (rule_of x) c.requires.before r c.has.result (search rules) c.has.ensures);
    }
