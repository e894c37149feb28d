use Rattle.address_laws.proofs.DraftMailboxes.{mailboxes_are_read}
use Rattle.address_laws.proofs.laws.mailboxes_are_read.Goals as goal

pub returns : goal.returns
returns c = mailboxes_are_read
