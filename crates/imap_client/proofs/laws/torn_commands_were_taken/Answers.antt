use Rattle.imap_client.proofs.InOrder.{torn_commands_were_taken}
use Rattle.imap_client.proofs.laws.torn_commands_were_taken.Goals as goal

pub returns : goal.returns
returns c = torn_commands_were_taken
