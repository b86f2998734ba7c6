use Rattle.answer.proofs.StrictOrder.{strict_total}
use Rattle.answer.proofs.order.smaller.Goals as goal

pub returns-clause-order : goal.returns-clause-order
returns-clause-order c = strict_total
