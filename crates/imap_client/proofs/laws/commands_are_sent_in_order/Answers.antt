use Rattle.imap_client.proofs.InOrder.{commands_are_sent_in_order}
use Rattle.imap_client.proofs.laws.commands_are_sent_in_order.Goals as goal

pub returns : goal.returns
returns c = commands_are_sent_in_order
