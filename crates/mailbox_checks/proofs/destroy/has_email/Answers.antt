use Rattle.std.proofs.Common.{List, ap, ◌∙◌}
use Rattle.std.specs.List.{list_any}
use Rattle.told_folder.specs.declared.message.Message.{Message}
use Rattle.mail_maps.specs.Visible.{is_served}
use Rattle.mailbox_checks.proofs.EmailLemmas.{has_email_is}
use Rattle.mailbox_checks.proofs.destroy.has_email.Goals as goal

pub loop-message-init : goal.loop-message-init
loop-message-init c =
    ap (λ (xs : List Message). list_any is_served xs) c.messages-message-items.ensures
    ∙ has_email_is c.args.mirror.now.mail.folders c.args.number c.each_is_mail.ensures.numbers
