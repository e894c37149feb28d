use Rattle.std.proofs.Common.{◌∙◌, sym}
use Rattle.mail_batches.specs.Rules.{IsRightMessage}
use Rattle.mail_batches.proofs.RuleLemmas.{message_told, places_to, wrong}
use Rattle.mail_batches.proofs.rules.is_right_message.Goals as goal

pub returns-then-not-has_right_places : goal.returns-then-not-has_right_places
returns-then-not-has_right_places c =
    wrong (IsRightMessage c.args.message.now) _ (sym c.has_right_places.ensures ∙ c.if-not-has_right_places.true) (places_to c.args.message.now)

pub returns : goal.returns
returns c = message_told c.are_flags.result c.args.message.now (sym c.has_right_places.ensures ∙ c.if-not-has_right_places.false) c.are_flags.ensures
