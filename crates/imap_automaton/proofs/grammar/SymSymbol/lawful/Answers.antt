use Rattle.imap_automaton.proofs.Lawful.{responses_lawful}
use Rattle.imap_automaton.proofs.grammar.SymSymbol.lawful.Goals as goal

pub returns : goal.returns
returns c = responses_lawful
