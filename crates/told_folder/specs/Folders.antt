-- Folders by number, each with its messages by UID: look-ups, and other messages in a folder.
use Rattle.std.specs.Prelude.{ℕ, ◌==◌, List, [], ◌∷◌, Option, Some, None, if◌then◌else◌}
use Rattle.std.specs.Option.{option_map}
use Rattle.told_folder.specs.Keyed.{with_key}
use Rattle.told_folder.specs.declared.message.Message.{Message}
use Rattle.told_folder.specs.declared.message.Folder.{Folder}
use Rattle.told_folder.specs.declared.message.NumberedFolder.{NumberedFolder}

abbrev pub uid_of : Message → ℕ
uid_of x = x.uid

abbrev pub folder_number : NumberedFolder → ℕ
folder_number h = h.folder.number

-- ---- look-ups

abbrev pub held_in : List NumberedFolder → ℕ → Option NumberedFolder
held_in hs n = with_key folder_number n hs

abbrev pub folder_in : List NumberedFolder → ℕ → Option Folder
folder_in hs n = option_map (λ h. h.folder) (held_in hs n)

abbrev pub messages_of : Option NumberedFolder → List Message
messages_of None = []
messages_of (Some h) = h.messages

abbrev pub messages_in : List NumberedFolder → ℕ → List Message
messages_in hs n = messages_of (held_in hs n)

abbrev pub message_in : List NumberedFolder → ℕ → ℕ → Option Message
message_in hs n u = with_key uid_of u (messages_in hs n)

-- the mark of the message at a place, which is a folder's number and a UID
abbrev pub mark_in : List NumberedFolder → ℕ × ℕ → Option ℕ
mark_in hs p = option_map (λ x. x.mark) (message_in hs p.0 p.1)

-- ---- changes

-- with these messages in the folder of the number
abbrev pub with_messages : List NumberedFolder → ℕ → List Message → List NumberedFolder
with_messages [] n xs = []
with_messages (h ∷ hs) n xs = if folder_number h == n then record h { messages = xs } ∷ hs else h ∷ with_messages hs n xs
