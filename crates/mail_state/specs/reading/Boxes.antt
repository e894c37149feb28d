-- What the Mailboxes of a step were made of: folders without what no Mailbox shows of them.
use Rattle.std.specs.Prelude.{◌≡◌, ℕ, ◌==◌, Bool, true, false, ◌&&◌, List, [], ◌∷◌, map}
use Rattle.std.specs.Option.{option_eq}
use Rattle.std.specs.Str.{bytes_eq}
use Rattle.change_list.specs.Advance.{advance_entries}
use Rattle.change_list.specs.declared.entries.Entry.{Entry}
use Rattle.served_maps.specs.Past.{tests_of}
use Rattle.told_folder.specs.declared.message.Folder.{Folder}
use Rattle.told_folder.specs.declared.message.NumberedFolder.{NumberedFolder}
use Rattle.mail_maps.specs.declared.row.MailboxRow.{MailboxRow}
use Rattle.mail_maps.specs.Rows.{Rows}
use Rattle.mail_maps.specs.Mailboxes.{folders_of, mailbox_row, mailboxes_of}
use Rattle.mail_maps.specs.Serve.{mailbox_of, mailbox_tests, same_names}

-- without validity, mod-sequence and the UID before which all is known
abbrev pub stripped : Folder → Folder
stripped f = record f { validity = 0; modseq = 0; next = 0 }

abbrev pub stripped_folders : List NumberedFolder → List Folder
stripped_folders hs = map stripped (folders_of hs)

-- whether a folder is another one without those
abbrev pub is_stripped : Folder → Folder → Bool
is_stripped kept f =
    kept.number == f.number && (bytes_eq kept.name f.name && (option_eq ◌==◌ kept.delimiter f.delimiter && (same_names kept.attributes f.attributes
    && (kept.validity == 0 && (kept.modseq == 0 && kept.next == 0)))))

-- whether folders are these without those, one by one
abbrev pub are_stripped : List Folder → List NumberedFolder → Bool
are_stripped [] [] = true
are_stripped [] (h ∷ hs) = false
are_stripped (k ∷ ks) [] = false
are_stripped (k ∷ ks) (h ∷ hs) = is_stripped k h.folder && are_stripped ks hs

-- each of these folders as a Mailbox
abbrev pub boxes_by : List Folder → Rows → List (ℕ × MailboxRow)
boxes_by fs rows = map {B = ℕ × MailboxRow} (λ (f : Folder). (f.number, mailbox_row fs rows f)) fs

-- the Mailboxes come to those of the folders and rows, by these touches
pub record StepsMailboxes (before : List (ℕ × MailboxRow)) (hs : List NumberedFolder) (rows : Rows) (now : List (ℕ × MailboxRow)) (steps : List Entry) : Type 0 where
  pub mailboxes : now ≡ mailboxes_of hs rows
  pub touches : steps ≡ advance_entries (tests_of mailbox_of mailbox_tests) before now

-- the Mailboxes were made of the folders kept, and where no Email was touched, these rows make the same of them
pub record BoxesStay (before : List (ℕ × MailboxRow)) (kept : List Folder) (rows : Rows) (touches : List Entry) : Type 0 where
  pub was : Rows
  pub made : before ≡ boxes_by kept was
  pub stay : touches ≡ [] → before ≡ boxes_by kept rows
