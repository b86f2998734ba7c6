use Rattle.draft.proofs.Forms.{none_held}
use Rattle.draft.proofs.draft.Draft.of_atoms.Goals as goal

pub invariant_of-result : goal.invariant_of-result
invariant_of-result c =
    record {
      limited = c.requires;
      formed = (none_held c.args.atoms _ _ _ _ c.requires c.new.ensures.len c.new-2.ensures.len c.new.ensures.bytes c.new-2.ensures.bytes).formed;
    }
