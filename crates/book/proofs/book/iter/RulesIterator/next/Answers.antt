use Rattle.std.proofs.Common.{◌≡◌, ◌<◌, refl, rules}
use Rattle.book.specs.Program.{rule_count, nth_rule, ProperRule}
use Rattle.book.specs.Reading.{program_of, rule_of}
use Rattle.book.proofs.Handing.{rule_by}
use Rattle.book.proofs.book.iter.RulesIterator.next.Goals as goal

pub returns-clause-steps : goal.returns-clause-steps
returns-clause-steps c =
    let s = c.args.self.now in
    let l : c.args.self.now.next < rule_count (program_of c.args.self.now.book) = search rules in
    let e : rule_of c.in_ok-rule.rule ≡ nth_rule (program_of c.args.self.now.book) c.args.self.now.next = search rules in
    let p : ProperRule (program_of c.args.self.now.book).atoms (rule_of c.in_ok-rule.rule) = search rules in
    (refl, (rule_by s.book s.next c.in_ok-rule.rule l e p, refl))
