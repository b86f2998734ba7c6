use Rattle.std.proofs.Common.{ℕ, length, take, ◌∙◌, arith}
use Rattle.std.proofs.lemmas.List.{get_or-take, length-take-le}
use Rattle.std.proofs.lemmas.List.FromFn.{fill_by_all}
use Rattle.answer.specs.Tests.{bit}
use Rattle.operator.specs.Page.{is_in}
use Rattle.inquiry.proofs.judge.marked_sheet.Goals as goal

pub returns : goal.returns
returns c =
    let n : ℕ = length c.args.marks.now in
    fill_by_all (λ k. bit (is_in c.args.marks.now k)) (take n c.loop-a.sheet) n 0 (length-take-le n c.loop-a.sheet (omega arith))
    (λ k l. get_or-take n c.loop-a.sheet k 0 l ∙ c.loop-a.invariant.written k (omega arith))
