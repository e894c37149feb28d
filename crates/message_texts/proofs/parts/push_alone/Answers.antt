use Rattle.std.proofs.Common.{sym, ◌∙◌}
use Rattle.std.proofs.lemmas.Result.{on_ok_weaker}
use Rattle.message_texts.specs.Parts.{shown_part}
use Rattle.message_texts.proofs.PartLemmas.{nothing_shown, shown_alone}
use Rattle.message_texts.proofs.parts.push_alone.Goals as goal

pub returns-then-is_shown : goal.returns-then-is_shown
returns-then-is_shown c =
    on_ok_weaker c.push_shown.result
    (λ w. shown_alone c.args.text.now c.push_shown.new.text (shown_part c.args.plain.now c.args.html.now) (sym c.is_shown.ensures ∙ c.if-is_shown.true) w) c.push_shown.ensures

pub returns-else-is_shown : goal.returns-else-is_shown
returns-else-is_shown c =
    on_ok_weaker c.push_text_leaf.result
    (λ w. nothing_shown c.args.text.now c.push_text_leaf.new.text (shown_part c.args.plain.now c.args.html.now) (sym c.is_shown.ensures ∙ c.if-is_shown.false) w) c.push_text_leaf.ensures
