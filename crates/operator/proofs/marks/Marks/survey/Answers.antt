use Rattle.std.proofs.Common.{◌≡◌, true, false, List, ℕ, ◌∙◌, ap, subst, rules}
use Rattle.book.specs.Layout.{words}
use Rattle.book.specs.Handing.{atoms_left}
use Rattle.book.proofs.Handing.{part_at, part_whole}
use Rattle.answer.specs.Tests.{some_of}
use Rattle.operator.specs.declared.part.Part.TheVariants.{Failed}
use Rattle.operator.specs.Marks.{marks_in, met}
use Rattle.operator.specs.Parts.{meeting, failing}
use Rattle.operator.proofs.Literals.{some_amid}
use Rattle.operator.proofs.Surveys.{Seen, Told, above, differ, seen_met, seen_open, seen_failed, seen_all}
use Rattle.operator.proofs.marks.Marks.survey.Goals as goal
use Rattle.operator.proofs.marks.Marks.survey.Goals.{In-Some-false, In-None}

pub loop-atom-preserved-in-Some-true : goal.loop-atom-preserved-in-Some-true
loop-atom-preserved-in-Some-true c =
    let h : (met (marks_in c.args.self.now) (meeting c.args.sign) c.in-Some.atom ≡ true) × (met (marks_in c.args.self.now) (failing c.args.sign) c.in-Some.atom ≡ false) = search rules in
    seen_met (marks_in c.args.self.now) (meeting c.args.sign) (failing c.args.sign) c.loop-atom.yielded c.in-Some.atom c.loop-atom.state c.loop-atom.invariant h.0 h.1

failed : (c : In-Some-false) → Told (marks_in c.args.self.now) (meeting c.args.sign) (failing c.args.sign) (words c.args.part.now) Failed
failed c =
    let p : List ℕ = marks_in c.args.self.now in
    let s = c.args.sign in
    let w : atoms_left c.into_iter-atom-iterator.result ≡ words c.args.part.now = search rules in
    let y = part_at (words c.args.part.now) c.into_iter-atom-iterator.result c.loop-atom.atom-iterator c.next.new.self c.loop-atom.yielded c.in-Some.atom w c.loop-atom.yielded_by c.in-Some.ensures.steps in
    let h : met (marks_in c.args.self.now) (failing c.args.sign) c.in-Some.atom ≡ true = search rules in
    seen_failed p (meeting s) (failing s) (words c.args.part.now) (above s).1 (differ s)
    (ap (some_of (met p (failing s))) y ∙ some_amid (met p (failing s)) c.loop-atom.yielded c.in-Some.atom _ h)

pub returns-in-Some-false : goal.returns-in-Some-false
returns-in-Some-false c = let t = failed c in record { all = t.0; some = t.1; only = t.2 }

pub loop-atom-preserved : goal.loop-atom-preserved
loop-atom-preserved c =
    let s = c.args.sign in
    let p : List ℕ = marks_in c.args.self.now in
    rw c.with_open-state.ensures
    (seen_open p (meeting s) (failing s) c.loop-atom.yielded c.in-Some.atom c.loop-atom.state c.loop-atom.invariant (above s).0 (above s).1 c.in-None-literal.ensures)

pub returns : goal.returns
returns c =
    let s = c.args.sign in
    let p : List ℕ = marks_in c.args.self.now in
    let w : atoms_left c.into_iter-atom-iterator.result ≡ words c.args.part.now = search rules in
    let y = part_whole (words c.args.part.now) c.into_iter-atom-iterator.result c.loop-atom.atom-iterator c.loop-atom.yielded w c.loop-atom.yielded_by c.in-None.ensures.steps.0 in
    let t = seen_all p (meeting s) (failing s) (words c.args.part.now) c.loop-atom.state (subst (λ xs. Seen p (meeting s) (failing s) xs c.loop-atom.state) y c.loop-atom.invariant) (above s).0 in
    record { all = t.0; some = t.1; only = t.2 }
