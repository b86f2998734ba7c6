use Rattle.std.proofs.Common.{refl, arith, rules}
use Rattle.book.specs.Layout.{claimed_below, decode}
use Rattle.book.proofs.book.Book.empty.Goals as goal

pub invariant_of-result : goal.invariant_of-result
unfolding claimed_below decode
invariant_of-result c =
    record {
      counts = (refl, refl, refl);
      limits = search rules;
      long = refl;
      heads = λ k h. absurd (omega arith);
      places = λ k h. absurd (omega arith);
      claimed = refl;
      literals = λ k i h. absurd (omega arith);
      ascending = λ k i h. absurd (omega arith);
    }
