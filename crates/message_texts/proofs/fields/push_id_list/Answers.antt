use Rattle.std.proofs.lemmas.Result.{on_ok_weaker}
use Rattle.message_lines.specs.declared.folding.Line.{Line}
use Rattle.message_lines.specs.Ids.{AreIdTexts}
use Rattle.message_texts.proofs.FieldLemmas.{field_added}
use Rattle.message_texts.proofs.fields.push_id_list.Goals as goal

pub returns : goal.returns
returns c =
    on_ok_weaker c.end_line.result
    (λ ended. field_added (λ (line : Line). AreIdTexts c.args.ids.now) c.args.name.now c.args.text.now c.begin_field.new.text c.push_ids.new.text c.end_line.new.text c.in_ok-line.line
    c.in_ok-push_ids.field-0 c.in_ok-line.ensures.0 c.in_ok-line.ensures.1 c.in_ok-push_ids.ensures ended) c.end_line.ensures
