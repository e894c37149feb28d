-- Mailboxes (RFC 8621 section 2): one for each folder.
use Rattle.std.specs.Prelude.{ℕ, List, map, codes, Option, Some, None}
use Rattle.std.specs.Option.{option_map}
use Rattle.told_folder.specs.declared.message.Folder.{Folder}
use Rattle.told_folder.specs.declared.message.NumberedFolder.{NumberedFolder}
use Rattle.mail_maps.specs.declared.row.MailboxRow.{MailboxRow}
use Rattle.mail_maps.specs.declared.row.Role.{Role}
use Rattle.mail_maps.specs.declared.tally.FolderCounts.{FolderCounts}
use Rattle.mail_maps.specs.Rows.{Rows}
use Rattle.mail_maps.specs.Hierarchy.{parent_in, own_name}
use Rattle.mail_maps.specs.Roles.{has_attribute, role_in}
use Rattle.mail_maps.specs.Rights.{rights_of}
use Rattle.mail_maps.specs.Counts.{total_emails, unread_emails, total_threads, unread_threads}

abbrev pub folders_of : List NumberedFolder → List Folder
folders_of hs = map (λ (h : NumberedFolder). h.folder) hs

-- the Mailbox of a folder among these, with a role and its counts
abbrev pub row_as : List Folder → Folder → Option Role → FolderCounts → MailboxRow
row_as fs f role counts = record {
  number = f.number;
  name = own_name fs f;
  full_name = f.name;
  parent = option_map (λ (g : Folder). g.number) (parent_in fs f);
  role = role;
  subscribed = has_attribute (codes "\\subscribed") f;
  rights = rights_of f;
  total_emails = counts.total_emails;
  unread_emails = counts.unread_emails;
  total_threads = counts.total_threads;
  unread_threads = counts.unread_threads;
}

-- each role once
abbrev pub row_with : List Folder → Folder → FolderCounts → MailboxRow
row_with fs f counts = row_as fs f (role_in fs f) counts

abbrev pub counts_in : Rows → ℕ → FolderCounts
counts_in rows folder = record {
  total_emails = total_emails rows folder;
  unread_emails = unread_emails rows folder;
  total_threads = total_threads rows folder;
  unread_threads = unread_threads rows folder;
}

-- those that are told of a folder, or none
abbrev pub counts_at : Option FolderCounts → FolderCounts
counts_at None = record { total_emails = 0; unread_emails = 0; total_threads = 0; unread_threads = 0 }
counts_at (Some counts) = counts

abbrev pub mailbox_row : List Folder → Rows → Folder → MailboxRow
mailbox_row fs rows f = row_with fs f (counts_in rows f.number)

-- each folder as a Mailbox, ascending
abbrev pub mailboxes_of : List NumberedFolder → Rows → List (ℕ × MailboxRow)
mailboxes_of hs rows = map {B = ℕ × MailboxRow} (λ (f : Folder). (f.number, mailbox_row (folders_of hs) rows f)) (folders_of hs)
