use Rattle.std.proofs.Common.{sym, ◌∙◌}
use Rattle.message_texts.specs.Parts.{shown_part}
use Rattle.message_texts.proofs.PartLemmas.{shown_first}
use Rattle.message_texts.proofs.parts.push_first.Goals as goal

pub returns-in_ok-push_shown : goal.returns-in_ok-push_shown
returns-in_ok-push_shown c =
    shown_first c.args.text.now c.push_delimiter.new.text c.push_shown.new.text (shown_part c.args.plain.now c.args.html.now) (sym c.is_shown.ensures ∙ c.if-is_shown.true)
    c.in_ok-push_delimiter.ensures c.in_ok-push_shown.ensures
