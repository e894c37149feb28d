use Rattle.imap_client.proofs.OneRun.{one_round}
use Rattle.imap_client.proofs.laws.one_round.Goals as goal

pub returns : goal.returns
returns c = one_round
