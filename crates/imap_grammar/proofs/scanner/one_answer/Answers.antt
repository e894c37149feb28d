use Rattle.imap_grammar.proofs.Spellings.{one_answer}
use Rattle.imap_grammar.proofs.scanner.one_answer.Goals as goal

pub returns : goal.returns
returns c = one_answer
