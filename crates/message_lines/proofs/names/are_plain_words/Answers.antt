use Rattle.std.proofs.Common.{sym}
use Rattle.message_lines.proofs.NameLemmas.{phrase_test}
use Rattle.message_lines.proofs.names.are_plain_words.Goals as goal

pub loop-octet-init : goal.loop-octet-init
loop-octet-init c = sym (phrase_test c.args.name.now)
