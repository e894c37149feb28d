use Rattle.told_mail.proofs.NextLemmas.{without_folder_next, without_message_next}
use Rattle.told_mail.proofs.laws.cutting_goes_on.Goals as goal

pub returns-clause-folders : goal.returns-clause-folders
returns-clause-folders c = without_folder_next

pub returns-clause-messages : goal.returns-clause-messages
returns-clause-messages c = without_message_next
