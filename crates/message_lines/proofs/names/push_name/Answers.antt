use Rattle.std.proofs.Common.{sym, ◌∙◌}
use Rattle.std.proofs.lemmas.Result.{IfOk-weaker}
use Rattle.message_lines.proofs.NameLemmas.{plain_name, encoded_name}
use Rattle.message_lines.proofs.names.push_name.Goals as goal

pub returns-then-is_plain_phrase : goal.returns-then-is_plain_phrase
returns-then-is_plain_phrase c =
    let words = c.as_bytes-then-is_plain_phrase in
    IfOk-weaker c.push_plain_words.result _ _
    (λ after w. plain_name c.args.line after c.args.text.now c.push_plain_words.new.text c.args.name.now c.as_bytes.result.now words.result.now c.as_bytes.ensures.value words.ensures.value
    (sym c.is_plain_phrase.ensures ∙ c.if-is_plain_phrase.true) w) c.push_plain_words.ensures

pub returns-else-is_plain_phrase : goal.returns-else-is_plain_phrase
returns-else-is_plain_phrase c =
    IfOk-weaker c.push_words.result _ _
    (λ after w. encoded_name c.args.line after c.args.text.now c.push_words.new.text c.args.name.now c.as_bytes.result.now c.as_bytes.ensures.value
    (sym c.is_plain_phrase.ensures ∙ c.if-is_plain_phrase.false) w) c.push_words.ensures
