use Rattle.mail_rows.proofs.MailLaws.{an_email_stays}
use Rattle.mail_rows.proofs.laws.an_email_stays.Goals as goal

pub returns : goal.returns
returns c = an_email_stays
