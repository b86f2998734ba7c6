use Rattle.std.proofs.Common.{sym}
use Rattle.draft.specs.Adding.{rule_by}
use Rattle.draft.specs.Drafting.{drafted}
use Rattle.draft.proofs.Adds.{addable}
use Rattle.draft.proofs.draft.Draft.add.Goals as goal

pub append-requires : goal.append-requires
append-requires c =
    addable (drafted c.args.self.now) (rule_by c.args.head c.args.positives.now c.args.negatives.now) (sym c.in_ok-check_rule.ensures)
