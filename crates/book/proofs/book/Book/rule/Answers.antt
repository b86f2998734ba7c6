use Rattle.std.proofs.Common.{◌≡◌, arith}
use Rattle.book.specs.Program.{nth_rule}
use Rattle.book.specs.Reading.{program_of, rule_of}
use Rattle.book.proofs.Holding.{rule_is, rule_proper}
use Rattle.book.proofs.book.Book.rule.Goals as goal
use Rattle.book.proofs.book.Book.rule.Goals.{After-rule_at}

is_rule : (c : After-rule_at) → rule_of c.rule_at.result ≡ nth_rule (program_of c.args.self.now) c.args.number
is_rule c =
    let b = c.args.self.now in
    let s = c.rule_at.ensures in
    rule_is b c.args.number c.rule_at.result (omega (arith, b.counts.2)) s.head s.positives s.negatives

pub returns-clause-rule : goal.returns-clause-rule
returns-clause-rule c = is_rule c

pub returns-clause-proper : goal.returns-clause-proper
returns-clause-proper c =
    let b = c.args.self.now in rule_proper b c.args.number c.rule_at.result (omega (arith, b.counts.2)) (is_rule c)
