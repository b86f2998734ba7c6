use Rattle.std.proofs.Common.{◌≡◌, ◌∷◌, length, drop, arith, rules, ◌∙◌, ap}
use Rattle.std.proofs.lemmas.List.{take_rest}
use Rattle.book.specs.Layout.{words}
use Rattle.book.proofs.Parts.{words_first, words_none}
use Rattle.book.proofs.book.iter.AtomsIterator.next.Goals as goal

pub returns-in_default-clause-steps : goal.returns-in_default-clause-steps
returns-in_default-clause-steps c =
    let e = words_none c.args.self.now.part.now (omega arith) in (e, e)

pub returns-clause-steps : goal.returns-clause-steps
returns-clause-steps c =
    let e = words_first c.args.self.now.part.now (omega arith) in
    let w : words c.args.self.now.part.now ≡ c.from.result ∷ words (drop 2 c.args.self.now.part.now) = e ∙ ap (λ x. x ∷ words (drop 2 c.args.self.now.part.now)) (search rules) in
    rw (take_rest c.args.self.now.part.now 2) w

pub returns-clause-goes : goal.returns-clause-goes
returns-clause-goes c =
    let e = ap length (words_first c.args.self.now.part.now (omega arith)) in
    rw (take_rest c.args.self.now.part.now 2) (record { on = λ f. (search rules, search rules, omega (arith, e)); keeps = tt; rests = λ f. tt })
