use Rattle.std.proofs.Common.{ℕ, length, take, refl}
use Rattle.std.proofs.lemmas.Result.{err_from_is_err_and}
use Rattle.book.specs.Program.{Program}
use Rattle.book.specs.Reading.{program_of}
use Rattle.book.proofs.Holding.{valid_book}
use Rattle.operator.specs.Page.{Meaning}
use Rattle.inquiry.specs.declared.inquiry.Inquiry.{Inquiry}
use Rattle.inquiry.specs.declared.state.State.{State}
use Rattle.inquiry.specs.Walk.{Finding}
use Rattle.inquiry.specs.Calls.{next, gave}
use Rattle.inquiry.specs.Kinds.{finding}
use Rattle.inquiry.specs.View.{view}
use Rattle.inquiry.proofs.Calling.{past_shaped, past_more, answered, refused, next_responds, next_word, next_keeps, next_lists, next_closes}
use Rattle.inquiry.proofs.inquiry.Inquiry.next.Goals as goal

pub returns-in_err-check_next-clause-answered : goal.returns-in_err-check_next-clause-answered
returns-in_err-check_next-clause-answered g c =
    let x : Inquiry = c.args.self.now in
    let p = err_from_is_err_and c.from_residual.result c.from_residual.ensures.1 in
    rw (p.1, p.2) (refused x (next (g.O.Operator.meaning c.args.operator.now) c.args.allowance (length c.args.buffer.now)) _ c.atoms.result (g.met.O.Operator.lawful c.args.operator.now (program_of x.book) (valid_book x.book)) c.atoms.ensures.atoms c.in_err-check_next.ensures)

pub advance-requires-clause-shape : goal.advance-requires-clause-shape
advance-requires-clause-shape g c = past_shaped (program_of c.args.self.now.book) c.args.self.now.state c.args.self.now.past

pub invariant_of-self : goal.invariant_of-self
invariant_of-self g c =
    let f : Meaning = g.O.Operator.meaning c.args.operator.now in
    let b : Program = program_of c.args.self.now.book in
    let s : State = c.args.self.now.state in
    let t : State = c.advance.new.self in
    let x : Finding = finding c.advance.result.kind (take b.atoms c.advance.new.buffer) in
    let n : ℕ = c.advance.result.steps in
    let h = next_responds f b s t _ c.atoms.ensures.atoms c.args.allowance (length c.args.buffer.now) x n c.in_ok-check_next.ensures c.advance.ensures.run c.advance.ensures.cursor c.advance.ensures.wishes in
    record { past = past_more b (view b s) (view b t) (next f c.args.allowance (length c.args.buffer.now)) (gave x n) (g.met.O.Operator.lawful c.args.operator.now b (valid_book c.args.self.now.book)) h c.args.self.now.past }

pub returns : goal.returns
returns g c =
    let f : Meaning = g.O.Operator.meaning c.args.operator.now in
    let b : Program = program_of c.args.self.now.book in
    let s : State = c.args.self.now.state in
    let t : State = c.advance.new.self in
    let a : ℕ = c.args.allowance in
    let room : ℕ = length c.args.buffer.now in
    let x : Finding = finding c.advance.result.kind (take b.atoms c.advance.new.buffer) in
    let n : ℕ = c.advance.result.steps in
    let V = valid_book c.args.self.now.book in
    let L = g.met.O.Operator.lawful c.args.operator.now b V in
    let h = next_responds f b s t _ c.atoms.ensures.atoms a room x n c.in_ok-check_next.ensures c.advance.ensures.run c.advance.ensures.cursor c.advance.ensures.wishes in
    record {
      answered = answered _ _ (next f a room) (gave x n) refl L h;
      buffer = c.advance.ensures.buffer;
      unchanged = tt;
      word = next_word f b (view b s) (view b t) a room x n L h V c.args.self.now.past;
      keeps = next_keeps f b (view b s) (view b t) a room x n L h;
      lists = next_lists f b (view b s) (view b t) a room x n L h;
      closes = next_closes f b (view b s) (view b t) a room x n L h;
      same = c.advance.ensures.same;
    }
