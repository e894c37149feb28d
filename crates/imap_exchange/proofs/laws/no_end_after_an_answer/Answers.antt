use Rattle.imap_exchange.proofs.Refutations.{no_end_after_an_answer}
use Rattle.imap_exchange.proofs.laws.no_end_after_an_answer.Goals as goal

pub returns : goal.returns
returns c = no_end_after_an_answer
