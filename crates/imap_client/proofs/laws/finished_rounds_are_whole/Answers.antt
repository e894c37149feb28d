use Rattle.imap_client.proofs.Finishing.{finished_rounds_are_whole}
use Rattle.imap_client.proofs.laws.finished_rounds_are_whole.Goals as goal

pub returns : goal.returns
returns c = finished_rounds_are_whole
