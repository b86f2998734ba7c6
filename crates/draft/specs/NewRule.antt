-- A rule that is to be added, as a rule of a program. Assumes nothing.
use Rattle.book.specs.Program.{ProgramRule}
use Rattle.draft.specs.declared.new_rule.NewRule.{NewRule}
use Rattle.draft.specs.Adding.{rule_by}

-- the rule of its head and its two parts
abbrev pub given : NewRule → ProgramRule
given r = rule_by r.head r.positives.now r.negatives.now
