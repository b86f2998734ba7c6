use Rattle.std.proofs.Common.{◌≡◌, ℕ, ◌<◌, List, length, take, subst, arith, rules}
use Rattle.book.specs.Program.{Program}
use Rattle.book.specs.Reading.{program_of}
use Rattle.operator.specs.Page.{object_count}
use Rattle.operator.specs.Notes.{tests}
use Rattle.operator.proofs.Tables.{noted_answers}
use Rattle.operator.proofs.Finish.{got_is, Written, clashed, finished}
use Rattle.operator.proofs.notes.Notes.finish.Goals as goal

pub returns-in-None : goal.returns-in-None
returns-in-None c =
    let b : Program = program_of c.args.book.now in
    let p : List ℕ = c.args.page.now in
    let t = c.args.self.now in
    let e = got_is b p t c.atoms-n.result c.loop-i.i _ c.atoms-n.ensures.atoms c.in-None.ensures in
    let l : c.loop-i.i < object_count b = omega (arith, c.requires.long, c.loop-i-test.true) in
    λ d. noted_answers b p t d _ _ (clashed b p (tests t) c.loop-i.i l e)

pub returns : goal.returns
returns c =
    let b : Program = program_of c.args.book.now in
    let p : List ℕ = c.args.page.now in
    let t = c.args.self.now in
    let few = c.atoms-n.ensures.valid.limited in
    let e : c.loop-i.i ≡ object_count b = omega (arith, c.requires.long, c.loop-i-test.false, c.loop-i.auto.i-end) in
    let w : Written b p (tests t) c.loop-i.fresh (object_count b) = subst (λ i. Written b p (tests t) c.loop-i.fresh i) e c.loop-i.invariant.written in
    let r : c.copy_from_slice.new.self ≡ take (length p) c.loop-i.fresh = search rules in
    λ d. noted_answers b p t d _ _ (finished b p (tests t) c.loop-i.fresh _ c.requires (omega (arith, c.requires.long, few.atoms, few.rules, c.loop-i.invariant.long)) w r)
