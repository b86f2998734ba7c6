use Rattle.std.proofs.Common.{arith}
use Rattle.book.proofs.Holding.{judged, different}
use Rattle.book.proofs.layout.check_layout.Goals as goal

pub returns-clause-holds : goal.returns-clause-holds
returns-clause-holds c = judged c.check_layers.result c.args.bytes.now (λ i. omega (arith, c.type_inv.bytes i)) c.check_layers.ensures.declines c.check_layers.ensures.bytes

pub returns-clause-different : goal.returns-clause-different
returns-clause-different c = different
