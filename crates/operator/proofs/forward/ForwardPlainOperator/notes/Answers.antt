use Rattle.std.proofs.Common.{true, false, arith, rules}
use Rattle.std.proofs.lemmas.List.{get_or-replicate}
use Rattle.book.proofs.Holding.{valid_book}
use Rattle.operator.proofs.forward.ForwardPlainOperator.notes.Goals as goal

pub loop-k-init : goal.loop-k-init
loop-k-init c =
    let few = (valid_book c.args.page.now.book.now).limited.atoms in
    record {
      at = search rules;
      noted = record {
        atom_in = λ a l. rw c.none-notes.ensures (get_or-replicate 128 a false false (omega arith));
        atom_out = λ a l. get_or-replicate 128 a true false (omega arith);
        body_in = λ r l. absurd (omega arith);
        body_out = λ r l. absurd (omega arith);
      };
    }
