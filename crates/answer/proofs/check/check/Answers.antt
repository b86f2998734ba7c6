use Rattle.answer.proofs.Computing.{computed}
use Rattle.answer.proofs.check.check.Goals as goal

pub returns-in_err-check_sheet-clause-computed : goal.returns-in_err-check_sheet-clause-computed
returns-in_err-check_sheet-clause-computed c = computed

pub returns-clause-computed : goal.returns-clause-computed
returns-clause-computed c = computed
