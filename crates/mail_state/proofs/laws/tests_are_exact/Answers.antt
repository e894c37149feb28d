use Rattle.mail_rows.proofs.Exact.{exact_mailbox, exact_email, exact_thread}
use Rattle.mail_state.proofs.SoundLemmas.{but_for_counts}
use Rattle.mail_state.proofs.laws.tests_are_exact.Goals as goal

pub returns : goal.returns
returns c = record { mailboxes = exact_mailbox; emails = exact_email; threads = exact_thread; counts = but_for_counts }
