use Rattle.std.proofs.Common.{◌≡◌, Some, drop}
use Rattle.std.specs.List.{list_any}
use Rattle.mail_maps.specs.Mailboxes.{folders_of}
use Rattle.mailbox_names.specs.Siblings.{has_child, is_child_of}
use Rattle.mailbox_names.proofs.siblings.has_child.Given as goal

-- the answer for all is that for those that are left
abbrev pub invariant-loop-held : goal.invariant-loop-held
invariant-loop-held l =
    list_any (is_child_of (folders_of l.mirror.mail.folders) (Some l.folder)) (folders_of (drop l.held-index l.held-items)) ≡ has_child (folders_of l.mirror.mail.folders) l.folder
