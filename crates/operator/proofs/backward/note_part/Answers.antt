use Rattle.std.proofs.Common.{◌≡◌, false, length, get_or, arith, rules}
use Rattle.book.specs.Layout.{words}
use Rattle.book.specs.Handing.{atoms_left}
use Rattle.book.proofs.Handing.{part_at}
use Rattle.operator.proofs.Backwards.{midst_below, part_more}
use Rattle.operator.proofs.backward.note_part.Goals as goal

pub loop-atom-preserved : goal.loop-atom-preserved
loop-atom-preserved c a =
    let w : atoms_left c.into_iter-atom-iterator.result ≡ words c.args.part.now = search rules in
    let y = part_at (words c.args.part.now) c.into_iter-atom-iterator.result c.loop-atom.atom-iterator c.next.new.self c.loop-atom.yielded c.in-Some.atom w c.loop-atom.yielded_by c.in-Some.ensures.steps in
    let l = midst_below 128 (words c.args.part.now) c.loop-atom.yielded c.in-Some.atom _ y c.requires in
    let m : length c.loop-atom.flags ≡ 128 = search rules in
    part_more c.loop-atom.yielded (get_or c.args.flags.now a false) c.loop-atom.flags c.in-Some.atom a (omega arith) (c.loop-atom.invariant a)
