-- When the small store answers NO (RFC 9051 section 7.1.2): nine causes.
use Rattle.std.specs.Prelude.{◌≡◌, ◌⊎◌, ℕ, ◌^◌, ◌<◌, ◌≤◌, ◌||◌, Bool, true, false, not, List, [], ◌∷◌, Option, Some, None, length, bytes_eq, IsSome, is_some}
use Rattle.std.specs.Prelude.{if◌then◌else◌}
use Rattle.std.specs.List.{Any, flat_map}
use Rattle.std.specs.Cmp.Lexicographic.{pointwise}
use Rattle.imap_types.specs.declared.command.Command.{Command}
use Rattle.imap_types.specs.declared.command.Command.TheVariants as command
use Rattle.imap_types.specs.Folders.{folder_name}
use Rattle.imap_types.specs.Items.{kept}
use Rattle.honest_store.specs.StoreMail.{StoreMessage, StoreFolder, StoreMail, folder_called, message_numbered}
use Rattle.honest_store.specs.FolderChanges.{child_part, name_after_rename, inbox_name}
use Rattle.honest_store.specs.TrueResponses.{messages_of_selected}
use Rattle.honest_store.specs.Sessions.{StoreSession}
use Rattle.honest_store.specs.MessageCommands.{flags_after, is_deleted}
use Rattle.small_answers.specs.Changes.{mail_without, next_validity, selected_folder}
use Rattle.small_answers.specs.Limits.{text_limit, total_length, is_last_change, is_last_message}

-- ---- names

-- the folders that a command names, other than those that it would make
abbrev pub names_asked : Command → List (List ℕ)
names_asked (command.Select name known) = name ∷ []
names_asked (command.Move uid name) = name ∷ []
names_asked (command.Append name flags date message) = name ∷ []
names_asked (command.Delete name) = name ∷ []
names_asked (command.Rename from to) = from ∷ []
names_asked (command.Subscribe name on) = name ∷ []
names_asked _ = []

-- a folder's new name, where a RENAME changes it
abbrev pub names_renamed : List ℕ → List ℕ → StoreFolder → List (List ℕ)
names_renamed from to f = if bytes_eq f.name from || is_some (child_part from f.delimiter f.name) then name_after_rename from to f ∷ [] else []

-- the names that a command would make
abbrev pub names_made : Command → StoreMail → List (List ℕ)
names_made (command.Create name) mail = folder_name name ∷ []
names_made (command.Rename from to) mail = folder_name to ∷ flat_map (names_renamed (folder_name from) (folder_name to)) mail.folders
names_made _ mail = []

-- INBOX would be deleted or renamed
abbrev pub TouchesInbox : Command → Type 0
TouchesInbox (command.Delete name) = folder_name name ≡ inbox_name
TouchesInbox (command.Rename from to) = folder_name from ≡ inbox_name
TouchesInbox _ = ⊥

-- a folder that would be deleted has others below it
abbrev pub LeavesChildren : StoreMail → Command → Type 0
LeavesChildren mail (command.Delete name) = Any (λ f. IsSome (child_part (folder_name name) f.delimiter f.name)) mail.folders
LeavesChildren mail _ = ⊥

-- ---- the folder that is selected

abbrev pub NeedsSelected : Command → Type 0
NeedsSelected command.Unselect = Unit {0}
NeedsSelected command.FetchFlags = Unit {0}
NeedsSelected (command.FetchSlice from to modseq) = Unit {0}
NeedsSelected (command.FetchNew from modseq) = Unit {0}
NeedsSelected (command.FetchBody uid) = Unit {0}
NeedsSelected (command.Store uid add flags) = Unit {0}
NeedsSelected (command.Move uid name) = Unit {0}
NeedsSelected (command.Expunge uid) = Unit {0}
NeedsSelected _ = ⊥

abbrev pub messages_or_none : Option (List StoreMessage) → List StoreMessage
messages_or_none None = []
messages_or_none (Some ms) = ms

-- the messages of the folder that is selected
abbrev pub selected_messages : StoreSession → List StoreMessage
selected_messages s = messages_or_none (messages_of_selected s.selected s.mail)

-- of them that of this UID
abbrev pub selected_message : StoreSession → ℕ → Option StoreMessage
selected_message s uid = message_numbered (selected_messages s) uid

abbrev pub MovesNothing : StoreSession → Command → Type 0
MovesNothing s (command.Move uid name) = selected_message s uid ≡ None
MovesNothing s _ = ⊥

-- ---- limits

abbrev pub flags_of_store : Bool → List (List ℕ) → Option StoreMessage → List (List ℕ)
flags_of_store add flags None = []
flags_of_store add flags (Some m) = flags_after add flags m.flags

-- the flags that a message would have
abbrev pub flags_made : StoreSession → Command → List (List ℕ)
flags_made s (command.Store uid add flags) = flags_of_store add flags (selected_message s uid)
flags_made s (command.Append name flags date message) = kept flags
flags_made s _ = []

abbrev pub IsAtEnd : (StoreFolder → Bool) → Option StoreFolder → Type 0
IsAtEnd test None = ⊥
IsAtEnd test (Some f) = test f ≡ true

abbrev pub are_same_names : List (List ℕ) → List (List ℕ) → Bool
are_same_names fs gs = pointwise bytes_eq fs gs

-- a STORE would change the message
abbrev pub changes_flags : Bool → List (List ℕ) → Option StoreMessage → Bool
changes_flags add flags None = false
changes_flags add flags (Some m) = not (are_same_names (flags_after add flags m.flags) m.flags)

-- an EXPUNGE would end it
abbrev pub ends_message : Option StoreMessage → Bool
ends_message None = false
ends_message (Some m) = is_deleted m

-- a number would pass its end
abbrev pub PassesEnd : StoreSession → Command → Type 0
PassesEnd s (command.Store uid add flags) = IsAtEnd is_last_change (selected_folder s) × (changes_flags add flags (selected_message s uid) ≡ true)
PassesEnd s (command.Expunge uid) = IsAtEnd is_last_change (selected_folder s) × (ends_message (selected_message s uid) ≡ true)
PassesEnd s (command.Move uid name) =
    IsAtEnd is_last_change (selected_folder s) ⊎ IsAtEnd is_last_message (folder_called (mail_without s.mail (selected_folder s) uid).folders name)
PassesEnd s (command.Append name flags date message) = IsAtEnd is_last_message (folder_called s.mail.folders name)
PassesEnd s (command.Create name) = 2 ^ 32 ≤ next_validity s.mail
PassesEnd s _ = ⊥

-- ---- the causes

pub data RefusalCause (s : StoreSession) (c : Command) : Type 0 where
  NotThere : Any (λ name. folder_called s.mail.folders name ≡ None) (names_asked c) → RefusalCause s c
  IsThere : Any (λ name. IsSome (folder_called s.mail.folders name)) (names_made c s.mail) → RefusalCause s c
  IsInbox : TouchesInbox c → RefusalCause s c
  HasChildren : LeavesChildren s.mail c → RefusalCause s c
  NothingSelected : NeedsSelected c → s.selected ≡ None → RefusalCause s c
  NoMessage : MovesNothing s c → RefusalCause s c
  NameTooLong : Any (λ name. text_limit < length name) (names_made c s.mail) → RefusalCause s c
  FlagsTooLong : text_limit < total_length (flags_made s c) → RefusalCause s c
  NumberSpent : PassesEnd s c → RefusalCause s c
