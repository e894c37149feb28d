use Rattle.std.proofs.Common.{ap, ◌∙◌}
use Rattle.std.proofs.lemmas.Result.{on_ok_weaker}
use Rattle.message_lines.specs.Bodies.{with_crlf}
use Rattle.message_texts.proofs.PartLemmas.{text_leaf_written}
use Rattle.message_texts.proofs.leaves.push_text_leaf.Goals as goal

pub returns : goal.returns
returns c =
    on_ok_weaker c.push_leaf.result
    (λ w. text_leaf_written c.args.text.now c.push_field.new.text c.push_field-2.new.text c.end_line.new.text c.push_leaf.new.self c.args.media.now c.args.value.now c.as_bytes.result.now
    c.in_ok-from_vec.field-0 (c.as_bytes.ensures.value ∙ c.in_ok-content.ensures) (c.in_ok-from_vec.ensures ∙ c.in_ok-value.ensures ∙ ap with_crlf c.as_bytes-2.ensures.value)
    c.in_ok-push_field.ensures c.in_ok-push_field-2.ensures c.in_ok-end_line.ensures w) c.push_leaf.ensures
