use Rattle.imap_client.proofs.Fetching.{finished_fetches_are_whole}
use Rattle.imap_client.proofs.laws.finished_fetches_are_whole.Goals as goal

pub returns : goal.returns
returns c = finished_fetches_are_whole
