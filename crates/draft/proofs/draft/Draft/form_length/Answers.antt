use Rattle.std.proofs.Common.{arith}
use Rattle.draft.specs.Drafting.{drafted}
use Rattle.draft.proofs.Forms.{read_back, one_form}
use Rattle.draft.proofs.Drafts.{valid_draft, length-form}
use Rattle.draft.proofs.draft.Draft.form_length.Goals as goal

pub returns : goal.returns
returns c =
    let d = c.args.self.now in
    record {
      counted = omega arith;
      length = omega (arith, length-form d);
      back = read_back (drafted d) (valid_draft d);
      one = one_form (drafted d);
    }
