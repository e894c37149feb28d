use Rattle.std.proofs.Common.{◌≡◌, ℕ, map, ◌++◌, drop, take}
use Rattle.told_folder.specs.declared.message.Folder.{Folder}
use Rattle.mail_maps.specs.declared.row.MailboxRow.{MailboxRow}
use Rattle.mail_maps.specs.Mailboxes.{folders_of, mailbox_row, mailboxes_of}
use Rattle.mail_maps.specs.reading.TakenRoles.{AreTaken}
use Rattle.mail_maps.proofs.mailboxes.rows_for.Given as goal

abbrev pub invariant-loop-held : goal.invariant-loop-held
invariant-loop-held l = record {
  rows : l.rows.entries ++ map {B = ℕ × MailboxRow} (λ (f : Folder). (f.number, mailbox_row (folders_of l.folders) l.emails.entries f)) (folders_of (drop l.held-index l.folders))
      ≡ mailboxes_of l.folders l.emails.entries;
  taken : AreTaken l.taken (folders_of (take l.held-index l.folders));
}
