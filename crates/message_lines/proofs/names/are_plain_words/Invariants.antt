use Rattle.std.proofs.Common.{◌≡◌, drop}
use Rattle.message_lines.specs.Names.{are_plain_words}
use Rattle.message_lines.proofs.NameLemmas.{phrase_from}
use Rattle.message_lines.proofs.names.are_plain_words.Given as goal

abbrev pub invariant-loop-octet : goal.invariant-loop-octet
invariant-loop-octet l = phrase_from l.behind_word (drop l.octet-index l.name) ≡ are_plain_words l.name
