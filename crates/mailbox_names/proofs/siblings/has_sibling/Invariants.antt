use Rattle.std.proofs.Common.{◌≡◌, drop}
use Rattle.std.specs.List.{list_any}
use Rattle.std.specs.Option.{option_copied}
use Rattle.std.specs.Str.Lossy.{utf8_lossy}
use Rattle.mail_maps.specs.Mailboxes.{folders_of}
use Rattle.mailbox_names.specs.Siblings.{has_sibling, is_other_child}
use Rattle.mailbox_names.proofs.siblings.has_sibling.Given as goal

-- the answer for all is that for those that are left
abbrev pub invariant-loop-held : goal.invariant-loop-held
invariant-loop-held l =
    let fs = folders_of l.mirror.mail.folders in
    list_any (is_other_child fs (option_copied l.this) (option_copied l.parent) (utf8_lossy l.name)) (folders_of (drop l.held-index l.held-items))
    ≡ has_sibling fs (option_copied l.this) (option_copied l.parent) l.name
