use Rattle.std.proofs.Common.{◌+◌, drop, map}
use Rattle.message_texts.specs.Parts.{attachment_leaf}
use Rattle.message_texts.proofs.PartLemmas.{part_written, attachment_at}
use Rattle.message_texts.proofs.parts.push_attachments.Goals as goal

pub loop-attachment-preserved : goal.loop-attachment-preserved
loop-attachment-preserved c =
    let list = c.args.attachments.now in
    let at = c.loop-attachment.attachment-index in
    let a = c.attachment-item.result in
    part_written c.args.text.now c.loop-attachment.text c.push_delimiter.new.text c.push_attachment.new.text _ (map attachment_leaf (drop at list)) (map attachment_leaf (drop (at + 1) list))
    (attachment_leaf a) c.loop-attachment.invariant (attachment_at list at a c.loop-attachment-test.true c.attachment-item.is) c.in_ok-push_delimiter.ensures c.in_ok-push_attachment.ensures
