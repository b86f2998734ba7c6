use Rattle.std.proofs.Common.{◌∙◌}
use Rattle.draft.proofs.Drafts.{form_put}
use Rattle.draft.proofs.draft.Draft.put_form.Goals as goal

pub returns : goal.returns
returns c =
    form_put c.args.self.now c.args.buffer.now c.as_flattened.result.now c.as_bytes-contents.result.now c.as_bytes.result.now c.put.new.bytes c.put-2.new.bytes c.put-3.new.bytes
    (c.as_flattened.ensures.value ∙ c.header.ensures) c.as_bytes-contents.ensures.bytes c.as_bytes.ensures.bytes c.put.ensures c.put-2.ensures c.put-3.ensures
