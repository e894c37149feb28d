use Rattle.std.proofs.Common.{◌≢◌, List, [], ◌++◌, map, ap, ◌∙◌}
use Rattle.std.proofs.lemmas.Result.{on_ok_weaker}
use Rattle.mail_drafts.specs.declared.attachment.Attachment.{Attachment}
use Rattle.message_texts.specs.Parts.{attachment_leaf, delimited_parts, shown_part}
use Rattle.message_texts.proofs.PartLemmas.{mixed_written}
use Rattle.message_texts.proofs.parts.push_part.Goals as goal

pub returns : goal.returns
returns c =
    let d = c.args.draft.now in
    let some : d.attachments ≢ [] = λ none. (let t = c.is_empty.ensures.1 none in cc (t, c.if-is_empty.false)) in
    on_ok_weaker c.push_closing.result
    (λ w. mixed_written c.args.text.now c.push_field.new.text c.end_line.new.text c.push_first.new.text c.push_attachments.new.text c.push_closing.new.text (shown_part d.text d.html)
    d.attachments some c.in_ok-push_field.ensures c.in_ok-end_line.ensures c.in_ok-push_first.ensures
    (c.in_ok-push_attachments.ensures ∙ ap (λ (list : List Attachment). c.push_first.new.text ++ delimited_parts (map attachment_leaf list)) c.as_slice.ensures) w) c.push_closing.ensures
