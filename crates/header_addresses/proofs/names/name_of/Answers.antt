use Rattle.std.proofs.Common.{sym, ◌∙◌}
use Rattle.std.proofs.lemmas.Result.{IfOk-weaker}
use Rattle.header_addresses.specs.Names.{OfPhrase, NoPhrase}
use Rattle.header_addresses.proofs.names.name_of.Goals as goal

pub returns-in_ok-phrase_name : goal.returns-in_ok-phrase_name
returns-in_ok-phrase_name c = OfPhrase c.in_ok-phrase_name.field-0 (sym c.is_phrase.ensures ∙ c.if-is_phrase.true) c.in_ok-phrase_name.ensures

pub returns-else-is_phrase : goal.returns-else-is_phrase
returns-else-is_phrase c = IfOk-weaker c.comment_name.result _ _ (λ n h. NoPhrase n (sym c.is_phrase.ensures ∙ c.if-is_phrase.false) h) c.comment_name.ensures
