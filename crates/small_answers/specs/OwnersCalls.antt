-- What the owner of the small store does to its mail, beside the clients.
use Rattle.std.specs.Prelude.{◌≡◌, ℕ, ℤ, ◌∷◌, [], Bool, true, false, not, List, Option, Some, None, map, codes, bytes_eq, slice_get, if◌then◌else◌}
use Rattle.std.specs.List.{flat_map}
use Rattle.honest_store.specs.StoreMail.{StoreMessage, StoreFolder, StoreMail, folder_called, has_flag}
use Rattle.honest_store.specs.FolderChanges.{inbox_name}
use Rattle.honest_store.specs.MessageCommands.{flags_after}
use Rattle.small_answers.specs.Changes.{message_of, mail_with, mail_without, mail_flagged}
use Rattle.small_answers.specs.Limits.{is_last_change, is_last_message}

-- ---- places

-- each message with its folder, in the order of folders and then of UIDs
abbrev pub messages_in_order : List StoreFolder → List (StoreFolder × StoreMessage)
messages_in_order fs = flat_map (λ f. map (λ m. (f, m)) f.messages) fs

-- the message at this place, from 0 on
abbrev pub message_at_place : StoreMail → ℕ → Option (StoreFolder × StoreMessage)
message_at_place mail at = slice_get (messages_in_order mail.folders) at

-- ---- the mail after a call; None where it answers false, and nothing changes

abbrev pub unless : Bool → StoreMail → Option StoreMail
unless true mail = None
unless false mail = Some mail

abbrev pub put_into : StoreMail → StoreMessage → Option StoreFolder → Option StoreMail
put_into mail m None = None
put_into mail m (Some f) = unless (is_last_message f) (mail_with mail (Some f) m)

abbrev pub delivered : StoreMail → List ℕ → List ℕ → ℤ → Option StoreMail
delivered mail name octets date = put_into mail (message_of [] date octets) (folder_called mail.folders name)

abbrev pub seen_flag : List ℕ
seen_flag = codes "\\seen"

abbrev pub seen_toggled : StoreMail → Option (StoreFolder × StoreMessage) → Option StoreMail
seen_toggled mail None = None
seen_toggled mail (Some p) =
    unless (is_last_change p.0) (mail_flagged mail (Some p.0) p.1.uid (flags_after (not (has_flag p.1 seen_flag)) (seen_flag ∷ []) p.1.flags))

-- the other of the two folders that there were first
abbrev pub other_folder : List ℕ → List ℕ
other_folder name = if bytes_eq name inbox_name then codes "Archive" else inbox_name

abbrev pub shifted : StoreMail → Option (StoreFolder × StoreMessage) → Option StoreMail
shifted mail None = None
shifted mail (Some p) =
    if is_last_change p.0 then None
    else (let left = mail_without mail (Some p.0) p.1.uid in put_into left p.1 (folder_called left.folders (other_folder p.0.name)))

abbrev pub message_expunged : StoreMail → Option (StoreFolder × StoreMessage) → Option StoreMail
message_expunged mail None = None
message_expunged mail (Some p) = unless (is_last_change p.0) (mail_without mail (Some p.0) p.1.uid)

-- what a call answers and leaves, where it is due to leave this, or nothing
pub data CallGives (before : StoreMail) (due : Option StoreMail) : Bool → StoreMail → Type 0 where
  CallDone : (after : StoreMail) → due ≡ Some after → CallGives before due true after
  CallRefused : due ≡ None → CallGives before due false before
