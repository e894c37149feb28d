use Rattle.imap_grammar.proofs.Spellings.{spelling_alone}
use Rattle.imap_grammar.proofs.decoder.no_spelling_within.Goals as goal

pub returns : goal.returns
returns c = spelling_alone
