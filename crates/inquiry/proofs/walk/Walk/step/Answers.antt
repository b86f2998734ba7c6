use Rattle.book.specs.Reading.{program_of}
use Rattle.book.proofs.Holding.{valid_book}
use Rattle.inquiry.proofs.Stepping.{low_marks, bounds, room, step_clash, step_retreat, step_choose, step_hand}
use Rattle.inquiry.proofs.walk.Walk.step.Goals as goal

pub derive-requires : goal.derive-requires
derive-requires g c = low_marks (program_of c.args.book.now) c.args.self.now c.args.depth c.requires.depth c.requires.shape

pub retreat-requires : goal.retreat-requires
retreat-requires g c = let y = bounds (program_of c.args.book.now) c.args.self.now c.args.depth c.requires.depth c.requires.shape c.derive.new.self (valid_book c.args.book.now) c.derive.ensures.rest in record { deep = y.0; atoms = y.1 }

pub retreat-requires-in-Retreat : goal.retreat-requires-in-Retreat
retreat-requires-in-Retreat g c = let y = bounds (program_of c.args.book.now) c.args.self.now c.args.depth c.requires.depth c.requires.shape c.derive.new.self (valid_book c.args.book.now) c.derive.ensures.rest in record { deep = y.0; atoms = y.1 }

pub choose-requires : goal.choose-requires
choose-requires g c =
    let y = room (program_of c.args.book.now) c.args.self.now c.args.depth c.requires.depth c.requires.shape c.derive.new.self (valid_book c.args.book.now) c.derive.ensures.rest _ _ c.in-Choose.atom (g.met.O.Operator.lawful c.args.operator.now) c.in-Marked.ensures.derived c.in-Choose.ensures in
    record { room = y.0; atom = y.1 }

pub returns-in-Clash-clause-step : goal.returns-in-Clash-clause-step
returns-in-Clash-clause-step g c = step_clash (g.O.Operator.meaning c.args.operator.now) (program_of c.args.book.now) _ c.args.self.now c.derive.new.self c.retreat.new.self c.args.depth c.derive.ensures.rest c.in-Clash.ensures.derived c.retreat.ensures

pub returns-in-Retreat-clause-step : goal.returns-in-Retreat-clause-step
returns-in-Retreat-clause-step g c = step_retreat (g.O.Operator.meaning c.args.operator.now) (program_of c.args.book.now) _ c.args.self.now c.derive.new.self c.retreat-in-Retreat.new.self c.args.depth c.derive.ensures.rest c.in-Marked.ensures.derived c.in-Retreat.ensures c.retreat-in-Retreat.ensures

pub returns-in-Choose-clause-step : goal.returns-in-Choose-clause-step
returns-in-Choose-clause-step g c = step_choose (g.O.Operator.meaning c.args.operator.now) (program_of c.args.book.now) _ c.args.self.now c.derive.new.self c.choose.new.self c.args.depth c.derive.ensures.rest c.in-Choose.atom c.in-Marked.ensures.derived c.in-Choose.ensures c.choose.ensures

pub returns-in-Hand-clause-step : goal.returns-in-Hand-clause-step
returns-in-Hand-clause-step g c = step_hand (g.O.Operator.meaning c.args.operator.now) (program_of c.args.book.now) _ c.args.self.now c.derive.new.self c.derive.new.self c.args.depth c.derive.ensures.rest c.requires.depth c.in-Marked.ensures.derived c.in-Hand.ensures
