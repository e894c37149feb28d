use Rattle.imap_client.proofs.Obedience.{obeyed_plans_end_ok}
use Rattle.imap_client.proofs.laws.obeyed_plans_end_ok.Goals as goal

pub returns : goal.returns
returns c = obeyed_plans_end_ok
