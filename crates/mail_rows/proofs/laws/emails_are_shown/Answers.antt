use Rattle.mail_rows.proofs.MailLaws.{emails_are_shown}
use Rattle.mail_rows.proofs.laws.emails_are_shown.Goals as goal

pub returns : goal.returns
returns c = emails_are_shown
