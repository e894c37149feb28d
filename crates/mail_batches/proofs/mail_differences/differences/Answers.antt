use Rattle.mail_batches.proofs.Differences.{are_between}
use Rattle.mail_batches.proofs.mail_differences.differences.Goals as goal

pub returns : goal.returns
returns c =
    are_between c.args.before.now.mail c.args.after.now.mail c.each_is_mail.ensures c.each_is_mail-2.ensures c.in_ok-gone.gone c.in_ok-new.new c.in_ok-other.other _ _ _ _ _
    c.in_ok-gone.ensures c.in_ok-new.ensures c.in_ok-other.ensures c.in_ok-push_gone_messages.ensures.ordered c.in_ok-push_new_messages.ensures.ordered
    c.in_ok-push_set_messages.ensures.ordered (rw c.new-items.ensures.items at c.in_ok-push_gone_messages.ensures.added)
    (rw c.folders.ensures at c.in_ok-push_gone_folders.ensures) (rw c.folders-2.ensures at c.in_ok-push_folders.ensures) c.in_ok-push_new_messages.ensures.added
    c.in_ok-push_set_messages.ensures.added
