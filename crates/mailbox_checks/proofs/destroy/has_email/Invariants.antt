use Rattle.std.proofs.Common.{◌≡◌, drop}
use Rattle.std.specs.List.{list_any}
use Rattle.mail_maps.specs.Visible.{is_served}
use Rattle.mailbox_checks.specs.Destroy.{has_email}
use Rattle.mailbox_checks.proofs.destroy.has_email.Given as goal

-- the answer for all is that for those that are left
abbrev pub invariant-loop-message : goal.invariant-loop-message
invariant-loop-message l = list_any is_served (drop l.message-index l.message-items) ≡ has_email l.mirror.mail.folders l.number
