use Rattle.std.proofs.Common.{◌≡◌, None, sym, refl, ap, ◌∙◌, arith, rules}
use Rattle.std.proofs.lemmas.List.{take_rest}
use Rattle.std.proofs.lemmas.Result.{err_from_is_err_and}
use Rattle.std.specs.Option.{option_map}
use Rattle.std.specs.Result.{result_err}
use Rattle.book.specs.Refusal.{in_rule}
use Rattle.book.specs.Layout.{rules_in, claimed_below}
use Rattle.book.specs.Diagnosis.{entry_fault}
use Rattle.book.proofs.Entries.{contents_more, entry_same, claimed_step, entry_none}
use Rattle.book.proofs.Firsts.{first_more, first_found, or_else_found}
use Rattle.book.proofs.header.Header.check_entries.Goals as goal

pub loop-k-init : goal.loop-k-init
unfolding claimed_below
loop-k-init c = (take_rest c.args.self.now.bytes.now 6, refl, search rules, refl)

pub returns-in_err-map_err : goal.returns-in_err-map_err
returns-in_err-map_err c =
    let bs = c.args.self.now.bytes.now in
    let w = c.args.self.now.counted in
    let k = c.loop-k.k-counter in
    let s = entry_same bs c.loop-k.contents.now _ _ _ k _ _ _ _ w.atoms_are w.literals_are c.loop-k.invariant.1 c.loop-k.invariant.0 c.take_entry.ensures.head c.take_entry.ensures.place c.take_entry.ensures.positives c.take_entry.ensures.negatives in
    let m : result_err c.map_err.result ≡ option_map (in_rule k) (result_err c.check_entry.result) = search rules in
    let p = err_from_is_err_and c.from_residual.result c.from_residual.ensures.1 in
    let here = ap (option_map (in_rule k)) (sym s ∙ sym c.check_entry.ensures) ∙ sym m ∙ ap result_err c.in_err-map_err.was in
    rw (p.1, p.2, w.rules_are)
    (sym (or_else_found _ _ _ (first_found (λ j. option_map (in_rule j) (entry_fault bs j)) _ k (rules_in bs) (omega (arith, w.rules_are)) c.loop-k.invariant.3 here)))

pub loop-k-preserved : goal.loop-k-preserved
loop-k-preserved c =
    let bs = c.args.self.now.bytes.now in
    let w = c.args.self.now.counted in
    let k = c.loop-k.k-counter in
    let s = entry_same bs c.loop-k.contents.now _ _ _ k _ _ _ _ w.atoms_are w.literals_are c.loop-k.invariant.1 c.loop-k.invariant.0 c.take_entry.ensures.head c.take_entry.ensures.place c.take_entry.ensures.positives c.take_entry.ensures.negatives in
    let none : result_err c.check_entry.result ≡ None = search rules in
    let good = entry_none c.args.self.now.atoms c.args.self.now.literals c.loop-k.claimed k _ _ _ (sym c.check_entry.ensures ∙ none) in (
      contents_more bs c.loop-k.contents.now c.take_entry.result.1.now k c.loop-k.invariant.0 c.take_entry.ensures.rest,
      claimed_step bs c.loop-k.contents.now c.loop-k.claimed k _ _ c.loop-k.invariant.1 c.loop-k.invariant.0 c.take_entry.ensures.positives c.take_entry.ensures.negatives,
      omega arith,
      first_more (λ j. option_map (in_rule j) (entry_fault bs j)) k c.loop-k.invariant.3 ∙ ap (option_map (in_rule k)) (sym s ∙ sym c.check_entry.ensures ∙ none),
    )
