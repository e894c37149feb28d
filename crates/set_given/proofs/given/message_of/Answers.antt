use Rattle.std.proofs.Common.{◌∙◌, sym}
use Rattle.mail_rows.proofs.VisibleLemmas.{hidden_mark, shown_at}
use Rattle.set_given.proofs.given.message_of.Goals as goal

pub returns-in-None : goal.returns-in-None
returns-in-None c = sym (hidden_mark c.args.mirror.now.mail c.args.mark c.each_is_mail.ensures c.in-None.ensures)

pub returns-in-Some : goal.returns-in-Some
returns-in-Some c = c.served_at.ensures ∙ shown_at c.args.mirror.now.mail c.args.mark (c.in-Some.folder, c.in-Some.uid) c.each_is_mail.ensures c.in-Some.ensures
