-- The names of a Mailbox's roles (RFC 8621 section 2).
use Rattle.std.specs.Prelude.{ℕ, List, codes}
use Rattle.mail_maps.specs.declared.row.Role.{Role}
use Rattle.mail_maps.specs.declared.row.Role.TheVariants as role

abbrev pub role_name : Role → List ℕ
role_name role.Inbox = codes "inbox"
role_name role.All = codes "all"
role_name role.Archive = codes "archive"
role_name role.Drafts = codes "drafts"
role_name role.Flagged = codes "flagged"
role_name role.Junk = codes "junk"
role_name role.Sent = codes "sent"
role_name role.Trash = codes "trash"
