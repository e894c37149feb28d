use Rattle.std.proofs.Common.{sym, ◌∙◌}
use Rattle.header_addresses.specs.reading.GroupBuilding.{NotPhrase, IsPhrase}
use Rattle.header_addresses.proofs.parts.name_in.Goals as goal

pub returns-in_ok-phrase_name : goal.returns-in_ok-phrase_name
returns-in_ok-phrase_name c = IsPhrase c.in_ok-phrase_name.field-0 (sym c.is_phrase.ensures ∙ c.if-is_phrase.true) c.in_ok-phrase_name.ensures

pub returns-else-is_phrase : goal.returns-else-is_phrase
returns-else-is_phrase c = NotPhrase (sym c.is_phrase.ensures ∙ c.if-is_phrase.false)
