use Rattle.imap_client.proofs.OneRun.{one_run}
use Rattle.imap_client.proofs.laws.one_run.Goals as goal

pub returns : goal.returns
returns c = one_run
