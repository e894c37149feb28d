-- What the small store does to its mail. Each change takes the next mod-sequence of its folder, and a new message the UIDNEXT (RFC 9051
-- section 2.3.1.1, RFC 7162 section 3.1).
use Rattle.std.specs.Prelude.{ℕ, ℤ, ◌+◌, Bool, not, List, [], ◌∷◌, ◌++◌, Option, Some, None, true, map, filter, fold, max, codes, bytes_eq, length}
use Rattle.std.specs.List.{flat_map}
use Rattle.honest_store.specs.StoreMail.{StoreMessage, StoreFolder, StoreMail, folder_numbered}
use Rattle.honest_store.specs.WellFormed.{use_of}
use Rattle.honest_store.specs.MessageChanges.{with_store_folder, folder_with, folder_without, folder_flagged}
use Rattle.honest_store.specs.FolderChanges.{new_use, renamed_folders, with_subscription, inbox_name}
use Rattle.honest_store.specs.Sessions.{StoreSession}

abbrev pub next_modseq : StoreFolder → ℕ
next_modseq f = f.highest + 1

-- ---- messages; nothing changes where there is no folder

-- before it comes to a folder, which gives it a UID and a mod-sequence
abbrev pub message_of : List (List ℕ) → ℤ → List ℕ → StoreMessage
message_of flags date octets = record { uid = 0; flags = flags; modseq = 0; date = date; size = length octets; octets = octets }

-- the message comes to the folder
abbrev pub mail_with : StoreMail → Option StoreFolder → StoreMessage → StoreMail
mail_with mail None m = mail
mail_with mail (Some f) m = with_store_folder mail (folder_with f (record m { uid = f.uid_next; modseq = next_modseq f }) (f.uid_next + 1))

-- the message of this UID ends
abbrev pub mail_without : StoreMail → Option StoreFolder → ℕ → StoreMail
mail_without mail None u = mail
mail_without mail (Some f) u = with_store_folder mail (folder_without f u (next_modseq f))

-- the message of this UID takes these flags
abbrev pub mail_flagged : StoreMail → Option StoreFolder → ℕ → List (List ℕ) → StoreMail
mail_flagged mail None u flags = mail
mail_flagged mail (Some f) u flags = with_store_folder mail (folder_flagged f u flags (next_modseq f))

-- ---- folders

-- a UIDVALIDITY that no folder had
abbrev pub next_validity : StoreMail → ℕ
next_validity mail = fold (λ n u. max n (u.validity + 1)) 1 mail.uses

-- `/`
abbrev pub hierarchy_delimiter : ℕ
hierarchy_delimiter = 47

-- its UIDVALIDITY is its number too
abbrev pub empty_folder : List ℕ → ℕ → StoreFolder
empty_folder name validity = record {
  number = validity;
  name = name;
  delimiter = Some hierarchy_delimiter;
  attributes = [];
  validity = validity;
  has_modseqs = true;
  highest = 1;
  uid_next = 1;
  messages = [];
  expunged = [];
}

abbrev pub folder_to_create : StoreMail → List ℕ → StoreFolder
folder_to_create mail name = empty_folder name (next_validity mail)

abbrev pub mail_created : StoreMail → StoreFolder → StoreMail
mail_created mail f = record mail { folders = mail.folders ++ f ∷ []; uses = mail.uses ++ use_of f ∷ [] }

abbrev pub mail_deleted : StoreMail → List ℕ → StoreMail
mail_deleted mail name = record mail { folders = filter (λ f. not (bytes_eq f.name name)) mail.folders }

abbrev pub mail_renamed : StoreMail → List ℕ → List ℕ → StoreMail
mail_renamed mail from to =
    record mail { folders = renamed_folders from to mail.folders; uses = mail.uses ++ flat_map (new_use from to) mail.folders }

abbrev pub mail_subscribed : StoreMail → List ℕ → Bool → StoreMail
mail_subscribed mail name on = record mail { folders = map (with_subscription name on) mail.folders }

-- ---- the first mail

-- INBOX and Archive, both empty
abbrev pub first_mail : StoreMail
first_mail = let inbox = empty_folder inbox_name 1 in let archive = empty_folder (codes "Archive") 2 in
    record { folders = inbox ∷ archive ∷ []; unselectable = []; uses = use_of inbox ∷ use_of archive ∷ [] }

abbrev pub first_session : StoreSession
first_session = record { mail = first_mail; selected = None }

-- ---- the folder that is selected

abbrev pub selected_in : StoreMail → Option ℕ → Option StoreFolder
selected_in mail None = None
selected_in mail (Some n) = folder_numbered mail.folders n

abbrev pub selected_folder : StoreSession → Option StoreFolder
selected_folder s = selected_in s.mail s.selected
