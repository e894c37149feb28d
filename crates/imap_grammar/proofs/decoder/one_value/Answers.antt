use Rattle.imap_grammar.proofs.Spellings.{spelling_value}
use Rattle.imap_grammar.proofs.decoder.one_value.Goals as goal

pub returns : goal.returns
returns c = spelling_value
