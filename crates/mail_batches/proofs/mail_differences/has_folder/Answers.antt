use Rattle.mail_batches.proofs.MailLemmas.{same_folder}
use Rattle.mail_batches.proofs.mail_differences.has_folder.Goals as goal

pub returns-in-Some : goal.returns-in-Some
returns-in-Some c = same_folder c.eq.result c.in-Some.was.now c.args.folder.now _ c.eq.ensures c.in-Some.ensures
