use Rattle.imap_client.proofs.OneRun.{one_fetch}
use Rattle.imap_client.proofs.laws.one_fetch.Goals as goal

pub returns : goal.returns
returns c = one_fetch
