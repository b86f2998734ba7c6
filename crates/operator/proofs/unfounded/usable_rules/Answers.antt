use Rattle.std.proofs.Common.{rules}
use Rattle.operator.proofs.unfounded.usable_rules.Goals as goal

pub returns : goal.returns
returns c k l = let (x, r, q) = c.rule_flags.ensures k l in search rules
