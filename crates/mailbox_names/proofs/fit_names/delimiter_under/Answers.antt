use Rattle.mailbox_names.proofs.FirstLemmas.{first_is, none_is}
use Rattle.mailbox_names.proofs.fit_names.delimiter_under.Goals as goal

pub returns-in-Some-folder_at : goal.returns-in-Some-folder_at
returns-in-Some-folder_at c = rw c.in-None.is (first_is c.args.mirror.now.mail.folders c.in-Some-folder_at.first.now c.in-Some-folder_at.ensures)

pub returns-in-None-folder_at : goal.returns-in-None-folder_at
returns-in-None-folder_at c = rw c.in-None.is (none_is c.args.mirror.now.mail.folders c.in-None-folder_at.ensures)
