-- What the items of a call are checked over, and what ids and creation ids name there (RFC 8620 sections 1.2, 3.3 and 5.3).
use Rattle.std.specs.Prelude.{ℕ, ◌==◌, ◌||◌, Bool, List, filter, map, find, bytes_eq, is_some, if◌then◌else◌, Option, Some, None, option_map, option_and_then}
use Rattle.std.specs.List.{list_any}
use Rattle.std.specs.Map.{lookup}
use Rattle.told_folder.specs.declared.message.Folder.{Folder}
use Rattle.told_folder.specs.declared.message.NumberedFolder.{NumberedFolder}
use Rattle.told_mail.specs.Mail.{Mail, folder_in}
use Rattle.mail_maps.specs.Rows.{Rows}
use Rattle.mail_maps.specs.Visible.{Placed, shown}
use Rattle.mail_maps.specs.declared.row.EmailRow.{EmailRow}
use Rattle.mail_state.specs.History.{MailHistory}
use Rattle.jmap_core.specs.CreatedIds.{Ids, id_of}
use Rattle.set_order.specs.Creations.{creation_in, id_named}
use Rattle.jmap_arguments.specs.Arguments.{is_among}
use Rattle.jmap_arguments.specs.Ids.{id_text, mailbox_letter, email_letter}

-- the numbers of the folders that a call made, by creation id
abbrev pub MadeFolders : Type 0
MadeFolders = List (List ℕ × ℕ)

-- What has become of the mail as the call began, the mail that is told now, the selected folder, whether the store tells special-use attributes, the
-- ids that the request created before the call, the creation ids of this call, and the folders that it made so far.
pub record Given : Type 0 where
  pub history : MailHistory
  pub mail : Mail
  pub selected : Option (List ℕ)
  pub special_use : Bool
  pub created : Ids
  pub making : List (List ℕ)
  pub made : MadeFolders

-- ---- Mailboxes

abbrev pub folders_now : Given → List Folder
folders_now g = map (λ (h : NumberedFolder). h.folder) g.mail.folders

abbrev pub was_numbered : Given → ℕ → Bool
was_numbered g n = is_some (folder_in g.history.mail.folders n)

-- a folder that was served as the call began
abbrev pub was_served : Given → Folder → Bool
was_served g f = was_numbered g f.number

abbrev pub is_made_here : Given → Folder → Bool
is_made_here g f = list_any (λ (e : List ℕ × ℕ). e.1 == f.number) g.made

-- the folders that have an id: of those that there are, the ones that were served as the call began, and the ones that it made
abbrev pub has_id : Given → Folder → Bool
has_id g f = was_served g f || is_made_here g f

abbrev pub folder_by_id : Given → List ℕ → Option Folder
folder_by_id g id = find (λ (f : Folder). bytes_eq (id_text mailbox_letter f.number) id) (filter (has_id g) (folders_now g))

abbrev pub folder_made_as : Given → List ℕ → Option Folder
folder_made_as g creation = option_and_then (folder_in g.mail.folders) (lookup (bytes_eq creation) g.made)

-- A creation id of this call names what the call made, and nothing where that wasn't made; another one what the request created before.
abbrev pub folder_created : Given → List ℕ → Option Folder
folder_created g creation =
    if is_among creation g.making then folder_made_as g creation else option_and_then (folder_by_id g) (id_of creation g.created)

abbrev pub folder_as : Given → List ℕ → Option (List ℕ) → Option Folder
folder_as g text None = folder_by_id g text
folder_as g text (Some creation) = folder_created g creation

-- the folder that a text names, in values and in the keys of updates
abbrev pub folder_named : Given → List ℕ → Option Folder
folder_named g text = folder_as g text (creation_in text)

abbrev pub where_served : Given → Folder → Option Folder
where_served g f = if was_served g f then Some f else None

-- A Mailbox that this call made isn't kept before its commit: nothing names it in a destroy.
abbrev pub folder_to_destroy : Given → List ℕ → Option Folder
folder_to_destroy g text = option_and_then (where_served g) (folder_named g text)

-- ---- Emails

-- the Email, and where its message is shown now
pub record EmailFound : Type 0 where
  pub email : ℕ
  pub mark : ℕ
  pub placed : Placed

abbrev pub row_by_id : Rows → List ℕ → Option (ℕ × EmailRow)
row_by_id rows id = find (λ e. bytes_eq (id_text email_letter e.0) id) rows

abbrev pub shown_at : Given → ℕ → ℕ → Option EmailFound
shown_at g email mark = option_map (λ (p : Placed). record { email = email; mark = mark; placed = p }) (shown g.mail.folders mark)

abbrev pub shown_row : Given → ℕ × EmailRow → Option EmailFound
shown_row g e = shown_at g e.0 e.1.mark

abbrev pub email_by_id : Given → List ℕ → Option EmailFound
email_by_id g id = option_and_then (shown_row g) (row_by_id g.history.numbered.rows id)

-- the Email that a text names: one that was served as the call began, and is shown still
abbrev pub email_named : Given → List ℕ → Option EmailFound
email_named g text = option_and_then (email_by_id g) (id_named g.making g.created text)
