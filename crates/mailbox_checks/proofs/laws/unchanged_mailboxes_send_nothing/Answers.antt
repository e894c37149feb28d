use Rattle.mailbox_checks.proofs.UnchangedLemmas.{unchanged}
use Rattle.mailbox_checks.proofs.laws.unchanged_mailboxes_send_nothing.Goals as goal

pub returns : goal.returns
returns c = λ g text job e. unchanged g text job e
