use Rattle.mail_batches.proofs.MailLemmas.{mark_told}
use Rattle.mail_batches.proofs.mail_differences.has_mark.Goals as goal

pub returns : goal.returns
returns c = rw c.is_some.ensures (mark_told c.args.mirror.now.mail c.args.mark c.place_of.result c.place_of.ensures)
