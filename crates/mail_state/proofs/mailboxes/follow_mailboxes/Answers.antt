use Rattle.std.proofs.Common.{sym, ◌∙◌}
use Rattle.mail_state.proofs.KeptFolders.{kept_all}
use Rattle.mail_state.proofs.KeptMailboxes.{boxes_step, boxes_recounted, none_in}
use Rattle.mail_state.proofs.mailboxes.follow_mailboxes.Goals as goal

pub returns-then-is_empty-clause-steps : goal.returns-then-is_empty-clause-steps
returns-then-is_empty-clause-steps c = λ stays.
    boxes_step c.args.old.entries c.args.kept.items c.args.mirror.now.mail.folders c.args.emails.now.entries c.args.touches.now c.len-count.ensures.ordered
    _ c.new.ensures.items (none_in c.args.touches.now (sym c.is_empty.ensures ∙ c.if-is_empty.true))
    (kept_all c.args.kept.items _ c.args.mirror.now.mail.folders _ c.are_kept.result c.as_slice.ensures.value c.folders-folders.ensures c.are_kept.ensures c.if-not-are_kept.false)
    stays

pub returns-then-is_empty-clause-folders : goal.returns-then-is_empty-clause-folders
returns-then-is_empty-clause-folders c =
    kept_all c.args.kept.items _ c.args.mirror.now.mail.folders _ c.are_kept.result c.as_slice.ensures.value c.folders-folders.ensures c.are_kept.ensures c.if-not-are_kept.false

pub returns-clause-steps : goal.returns-clause-steps
returns-clause-steps c = λ stays.
    boxes_recounted c.args.old.entries _ c.args.kept.items c.args.mirror.now.mail.folders c.args.emails.now.entries c.args.touches.now _
    c.in_ok-recounted.ensures.mailboxes c.in_ok-recounted.ensures.touches
    (kept_all c.args.kept.items _ c.args.mirror.now.mail.folders _ c.are_kept.result c.as_slice.ensures.value c.folders-folders.ensures c.are_kept.ensures c.if-not-are_kept.false)
    stays

pub returns-clause-folders : goal.returns-clause-folders
returns-clause-folders c =
    kept_all c.args.kept.items _ c.args.mirror.now.mail.folders _ c.are_kept.result c.as_slice.ensures.value c.folders-folders.ensures c.are_kept.ensures c.if-not-are_kept.false
