use Rattle.imap_exchange.proofs.Verdicts.{one_verdict}
use Rattle.imap_exchange.proofs.laws.one_verdict.Goals as goal

pub returns : goal.returns
returns c = one_verdict
