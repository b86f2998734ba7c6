-- The counts that a header was read into. Assumes nothing.
use Rattle.std.specs.Prelude.{◌≡◌, ℕ, List}
use Rattle.book.specs.Layout.{atoms_in, rules_in, literals_in}
use Rattle.book.specs.Invariant.{Limits, Long}

-- they are the counts that the bytes open with, within the limits, and the bytes are as many as they ask for
pub record Counted (bs : List ℕ) (atoms rules literals : ℕ) : Type 0 where
  pub atoms_are : atoms ≡ atoms_in bs
  pub rules_are : rules ≡ rules_in bs
  pub literals_are : literals ≡ literals_in bs
  pub limits : Limits bs
  pub long : Long bs
