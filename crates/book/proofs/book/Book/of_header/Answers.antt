use Rattle.std.proofs.Common.{sym, ◌∙◌}
use Rattle.book.proofs.Kept.{kept}
use Rattle.book.proofs.Decodes.{atoms-decode, count-decode}
use Rattle.book.proofs.book.Book.of_header.Goals as goal

pub invariant_of-result : goal.invariant_of-result
invariant_of-result c =
    let bs = c.args.header.bytes.now in
    let w = c.args.header.counted in
    let s = kept bs c.requires.sound in
    record {
      counts = (w.atoms_are ∙ sym (atoms-decode bs), w.rules_are ∙ sym (count-decode bs), w.rules_are);
      limits = w.limits;
      long = w.long;
      heads = s.0;
      places = s.1;
      claimed = s.2;
      literals = s.3;
      ascending = s.4;
    }
