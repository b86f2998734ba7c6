use Rattle.std.proofs.Common.{sym, arith, rules}
use Rattle.book.specs.Diagnosis.{body_fault}
use Rattle.book.proofs.FirstLiteral.{entry_sound, body_found}
use Rattle.book.proofs.Firsts.{first_found}
use Rattle.book.proofs.header.Header.check_bodies.Goals as goal

pub check_literal-requires : goal.check_literal-requires
check_literal-requires c =
    let good = entry_sound c.args.self.now.bytes.now c.loop-k.k c.args.self.now.rules c.loop-k-test.true c.requires in search rules

pub returns-in-Err : goal.returns-in-Err
returns-in-Err c =
    let b = body_found c.args.self.now.bytes.now c.loop-k.k c.loop-i.i c.in-Err.field (omega arith) c.loop-i.invariant (sym c.in-Err.ensures) in
    let f = first_found (body_fault c.args.self.now.bytes.now) _ c.loop-k.k c.args.self.now.rules c.loop-k-test.true c.loop-k.invariant b in
    cc
