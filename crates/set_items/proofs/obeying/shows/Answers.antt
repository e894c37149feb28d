use Rattle.std.proofs.Common.{◌∙◌, Option, is_some, ap, sym}
use Rattle.mail_maps.specs.Visible.{Placed}
use Rattle.mail_rows.proofs.VisibleLemmas.{hidden_mark}
use Rattle.set_items.proofs.Shows.{shows_message}
use Rattle.set_items.proofs.obeying.shows.Goals as goal

pub returns-in_default : goal.returns-in_default
returns-in_default c =
    sym (ap (λ (o : Option Placed). is_some o) (hidden_mark c.args.mirror.now.mail c.args.mark c.each_is_mail.ensures c.in_default.ensures))

pub returns-in-Some-message : goal.returns-in-Some-message
returns-in-Some-message c =
    c.is_served.ensures
    ∙ shows_message c.args.mirror.now.mail c.args.mark c.in-Some.folder c.in-Some.uid c.in-Some-message.message.now c.each_is_mail.ensures c.in-Some.ensures
    c.in-Some-message.ensures
