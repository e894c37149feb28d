use Rattle.std.proofs.lemmas.Result.{on_ok_weaker}
use Rattle.message_texts.proofs.PartLemmas.{alternative_written}
use Rattle.message_texts.proofs.parts.push_alternative.Goals as goal

pub returns : goal.returns
returns c =
    on_ok_weaker c.push_closing.result
    (λ w. alternative_written c.args.text.now c.push_field.new.text c.end_line.new.text c.push_delimiter.new.text c.push_text_leaf.new.text c.push_delimiter-2.new.text
    c.push_text_leaf-2.new.text c.push_closing.new.text c.args.plain.now c.args.html.now c.in_ok-push_field.ensures c.in_ok-end_line.ensures c.in_ok-push_delimiter.ensures
    c.in_ok-push_text_leaf.ensures c.in_ok-push_delimiter-2.ensures c.in_ok-push_text_leaf-2.ensures w) c.push_closing.ensures
