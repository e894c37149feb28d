use Rattle.std.proofs.Common.{◌≡◌, ◌++◌, drop, map}
use Rattle.message_texts.specs.Parts.{attachment_leaf, delimited_parts}
use Rattle.message_texts.proofs.parts.push_attachments.Given as goal

abbrev pub invariant-loop-attachment : goal.invariant-loop-attachment
invariant-loop-attachment l =
    l.text ++ delimited_parts (map attachment_leaf (drop l.attachment-index l.attachments)) ≡ l.fn.text ++ delimited_parts (map attachment_leaf l.fn.attachments)
