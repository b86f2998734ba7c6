use Rattle.std.proofs.Common.{◌≡◌, [], sym, refl, ap, ◌∙◌, subst}
use Rattle.book.specs.Program.{Program}
use Rattle.book.specs.Reading.{program_of}
use Rattle.book.proofs.Holding.{valid_book}
use Rattle.inquiry.specs.Calls.{opening, Transcript, opened}
use Rattle.inquiry.specs.View.{view}
use Rattle.inquiry.proofs.Fresh.{start_view}
use Rattle.inquiry.proofs.Runs.{promise}
use Rattle.inquiry.proofs.inquiry.Inquiry.open.Goals as goal

pub invariant_of-result : goal.invariant_of-result
invariant_of-result c =
    let b : Program = program_of c.args.book in
    let e : view b c.start-state.result ≡ opening b = ap (view b) c.start-state.ensures ∙ start_view b (valid_book c.args.book) in
    record { past = ∣ ([], subst (Transcript b []) (sym e) opened) ∣₁ }

pub returns : goal.returns
returns c =
    let b : Program = program_of c.args.book in
    let e : view b c.start-state.result ≡ opening b = ap (view b) c.start-state.ensures ∙ start_view b (valid_book c.args.book) in
    let t = subst (Transcript b []) (sym e) opened in
    record { book = refl; state = e; transcript = t; promised = promise b [] _ t }
