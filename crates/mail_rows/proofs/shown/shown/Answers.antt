use Rattle.std.proofs.Common.{◌∙◌, sym}
use Rattle.mail_rows.proofs.VisibleLemmas.{hidden_mark, shown_at}
use Rattle.mail_rows.proofs.shown.shown.Goals as goal

pub returns-in_None : goal.returns-in_None
returns-in_None c = sym (hidden_mark c.args.mirror.now.mail c.args.mark c.each_is_mail.ensures c.in_None.ensures)

pub returns-in_Some : goal.returns-in_Some
returns-in_Some c = c.served_at.ensures ∙ shown_at c.args.mirror.now.mail c.args.mark (c.in-Some.folder, c.in-Some.uid) c.each_is_mail.ensures c.in-Some.ensures
