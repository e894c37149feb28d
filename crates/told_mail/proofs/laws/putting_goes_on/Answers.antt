use Rattle.told_mail.proofs.NextLemmas.{with_folder_next, with_message_next}
use Rattle.told_mail.proofs.laws.putting_goes_on.Goals as goal

pub returns-clause-folders : goal.returns-clause-folders
returns-clause-folders c = with_folder_next

pub returns-clause-messages : goal.returns-clause-messages
returns-clause-messages c = with_message_next
