use Rattle.told_mail.proofs.WellLemmas.{well_without_folder, well_without_message}
use Rattle.told_mail.proofs.laws.cutting_keeps_well_formed.Goals as goal

pub returns-clause-folders : goal.returns-clause-folders
returns-clause-folders c = well_without_folder

pub returns-clause-messages : goal.returns-clause-messages
returns-clause-messages c = well_without_message
