use Rattle.std.proofs.Common.{◌∙◌}
use Rattle.inquiry.proofs.Faults.{accepted, no_sheet_fault}
use Rattle.inquiry.proofs.judge.is_answer_set.Goals as goal

pub unwrap-requires : goal.unwrap-requires
unwrap-requires c = accepted _ (c.check.ensures.declines ∙ no_sheet_fault _ c.args.sheet.now c.requires)
