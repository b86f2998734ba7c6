use Rattle.std.proofs.Common.{◌≡◌, ℕ, ◌+◌, ◌<◌, List, ◌++◌, length, set, arith}
use Rattle.std.proofs.lemmas.Grind.{common_steps}
use Rattle.book.proofs.Parts.{twos-append}
use Rattle.draft.specs.Rows.{bytes_by}
use Rattle.draft.proofs.rows.Rows+2+N.push_atoms.Goals as goal

-- the bytes of one row more
bytes_more : (rows : List (List ℕ)) (n m : ℕ) (row : List ℕ) → m ≡ n + 1 → n < length rows → bytes_by (set rows n row) m ≡ bytes_by rows n ++ row
unfolding bytes_by
bytes_more rows n m row e h = grind (arith, common_steps)

pub loop-i-preserved : goal.loop-i-preserved
loop-i-preserved g c =
    record {
      len = c.loop-i.invariant.len;
      wide = grind (arith, common_steps, bytes_more);
      bytes = grind (arith, common_steps, bytes_more, twos-append);
    }
