use Rattle.std.proofs.Common.{◌∙◌}
use Rattle.std.proofs.lemmas.Result.{on_ok_weaker}
use Rattle.message_texts.proofs.PartLemmas.{attachment_written}
use Rattle.message_texts.proofs.leaves.push_attachment.Goals as goal

pub returns : goal.returns
returns c =
    on_ok_weaker c.push_leaf.result
    (λ w. attachment_written c.args.text.now c.push_field.new.text c.push_field-2.new.text c.push_disposition.new.text c.push_content_id.new.text c.end_line.new.text
    c.push_leaf.new.self c.as_bytes.result.now c.in_ok-share.field-0 c.args.attachment.now (c.as_bytes.ensures.value ∙ c.in_ok-content.ensures) c.in_ok-share.ensures
    c.in_ok-push_field.ensures c.in_ok-push_field-2.ensures c.in_ok-push_disposition.ensures c.in_ok-push_content_id.ensures c.in_ok-end_line.ensures w) c.push_leaf.ensures
