-- What changing commands tell besides their responses: messages that went or came, flags, folders.
use Rattle.std.specs.Prelude.{ℕ, ◌&&◌, Bool, true, false, List, Option, Some, None, if◌then◌else◌, is_some, length, ℤ}
use Rattle.std.specs.List.{list_any}
use Rattle.imap_types.specs.Items.{kept}
use Rattle.imap_types.specs.declared.command.Command.{Command}
use Rattle.imap_types.specs.declared.command.Command.TheVariants as command
use Rattle.imap_types.specs.declared.response.FetchItems.{FetchItems}
use Rattle.imap_types.specs.declared.response.Response.{Response}
use Rattle.imap_types.specs.declared.response.Response.TheVariants as response
use Rattle.kept_names.specs.Changes.{flags_after, subscribed}
use Rattle.told_folder.specs.Tell.{kept_header}
use Rattle.told_folder.specs.declared.message.NumberedFolder.{NumberedFolder}
use Rattle.told_folder.specs.declared.message.Message.{Message}
use Rattle.told_mail.specs.Exchanges.{is_uid}
use Rattle.told_mail.specs.Mail.{Mail, named, folder_number, message_in, with_message, without_message, without_folder, with_flags_of, with_attributes}
use Rattle.told_mail.specs.Renames.{with_renamed}
use Rattle.told_changes.specs.declared.landing.Landing.{Landing}
use Rattle.told_changes.specs.Headers.{header_of}

-- ---- a message goes, or comes

-- the message that an APPEND put there, with this mark
abbrev pub appended_message : ℕ → ℕ → List (List ℕ) → ℤ → List ℕ → Message
appended_message mark uid flags date message = record {
  uid = uid;
  mark = mark;
  flags = kept flags;
  date = date;
  size = length message;
  header = kept_header (header_of message);
}

abbrev pub named_by : Mail → Option (List ℕ) → Option NumberedFolder
named_by m None = None
named_by m (Some name) = named m.folders name

-- the message has this UID in the other folder now, and its mark still
abbrev pub with_moved : Mail → ℕ → ℕ → Landing → Option Message → Mail
with_moved m from uid l None = m
with_moved m from uid l (Some x) = with_message (without_message m (from, uid)) l.folder (record x { uid = l.uid })

abbrev pub with_moved_from : Mail → Option NumberedFolder → ℕ → Landing → Mail
with_moved_from m None uid l = m
with_moved_from m (Some h) uid l = with_moved m (folder_number h) uid l (message_in m.folders (folder_number h) uid)

abbrev pub landed : Mail → Command → Option (List ℕ) → Landing → Mail
landed m (command.Move uid name) selected l = with_moved_from m (named_by m selected) uid l
landed m (command.Append name flags date message) selected l = with_message m l.folder (appended_message m.next_mark l.uid flags date message)
landed m _ selected l = m

-- ---- flags

abbrev pub tells_flags_in : ℕ → FetchItems → Bool
tells_flags_in uid items = is_uid uid items.uid && is_some items.flags

abbrev pub tells_flags : ℕ → Response → Bool
tells_flags uid (response.Fetch seq items) = tells_flags_in uid items
tells_flags uid _ = false

abbrev pub with_stored : Mail → ℕ → Bool → List (List ℕ) → Option Message → Mail
with_stored m n add flags None = m
with_stored m n add flags (Some x) = with_flags_of m n (flags_after add flags x.flags) (Some x)

abbrev pub with_stored_in : Mail → Option NumberedFolder → ℕ → Bool → List (List ℕ) → Mail
with_stored_in m None uid add flags = m
with_stored_in m (Some h) uid add flags = with_stored m (folder_number h) add flags (message_in m.folders (folder_number h) uid)

-- ---- folders

abbrev pub without_named : Mail → Option NumberedFolder → Mail
without_named m None = m
without_named m (Some h) = without_folder m (folder_number h)

abbrev pub with_subscribed : Mail → Bool → Option NumberedFolder → Mail
with_subscribed m on None = m
with_subscribed m on (Some h) = with_attributes m (folder_number h) (subscribed on h.folder.attributes)

-- ---- after the responses

-- a STORE makes its change where no response tells the message's flags
abbrev pub changed_by : Mail → Command → List Response → Option (List ℕ) → Mail
changed_by m (command.Store uid add flags) rs selected =
    if list_any (tells_flags uid) rs then m else with_stored_in m (named_by m selected) uid add flags
changed_by m (command.Rename from to) rs selected = with_renamed m from to
changed_by m (command.Delete name) rs selected = without_named m (named m.folders name)
changed_by m (command.Subscribe name on) rs selected = with_subscribed m on (named m.folders name)
changed_by m _ rs selected = m
