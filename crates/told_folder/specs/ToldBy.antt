-- What the responses of a command tell of a folder: before them, in their order, and after them (RFC 9051, RFC 7162).
use Rattle.std.specs.Prelude.{◌≡◌, ℕ, ◌+◌, ◌==◌, not, Bool, true, false, List, [], ◌∷◌, Option, Some, None, max, if◌then◌else◌, is_some}
use Rattle.std.specs.List.{list_any}
use Rattle.imap_types.specs.declared.command.Command.{Command}
use Rattle.imap_types.specs.declared.command.Command.TheVariants as command
use Rattle.imap_types.specs.declared.response.Response.{Response}
use Rattle.imap_types.specs.declared.response.Response.TheVariants as response
use Rattle.told_folder.specs.Folders.{uid_of}
use Rattle.told_folder.specs.Keyed.{with_key}
use Rattle.told_folder.specs.Select.{selected_as}
use Rattle.told_folder.specs.Tell.{Telling, tell_responses, AllKnown, without_those}
use Rattle.told_folder.specs.declared.message.Message.{Message}
use Rattle.told_folder.specs.declared.message.Folder.{Folder}
use Rattle.told_folder.specs.declared.message.NumberedFolder.{NumberedFolder}

-- ---- before, in and after the responses

abbrev pub selected_first : Command → List Response → NumberedFolder → NumberedFolder
selected_first (command.Select name known) rs h = selected_as rs h
selected_first _ rs h = h

-- whether a UID that isn't held is a new message
abbrev pub adds : Command → Bool
adds (command.FetchSlice from to modseq) = true
adds (command.FetchNew from modseq) = true
adds _ = false

abbrev pub uid_told : Response → Option ℕ
uid_told (response.Fetch seq items) = items.uid
uid_told _ = None

abbrev pub is_uid : ℕ → Option ℕ → Bool
is_uid u None = false
is_uid u (Some v) = v == u

-- whether a FETCH tells the UID
abbrev pub is_told : List Response → ℕ → Bool
is_told rs u = list_any (λ r. is_uid u (uid_told r)) rs

abbrev pub past : List Message → Option ℕ → ℕ
past xs None = 0
past xs (Some u) = if is_some (with_key uid_of u xs) then u + 1 else 0

-- one past the greatest UID that is told and held; 0 where there is none
abbrev pub past_told : List Message → List Response → ℕ
past_told xs [] = 0
past_told xs (r ∷ rs) = max (past xs (uid_told r)) (past_told xs rs)

-- the UID before which all is known, where these messages are held after the responses
abbrev pub next_after : Command → List Response → List Message → ℕ → ℕ
next_after (command.FetchNew from modseq) rs xs next = max next (past_told xs rs)
next_after (command.FetchSlice from to modseq) rs xs next = max next (to + 1)
next_after _ rs xs next = next

-- FetchFlags tells every message, so that those it doesn't tell are gone
abbrev pub kept_after : Command → List Response → List Message → List Message
kept_after command.FetchFlags rs xs = without_those (λ u. not (is_told rs u)) xs
kept_after _ rs xs = xs

-- ---- a folder

abbrev pub telling_in : ℕ → NumberedFolder → Telling
telling_in next_mark h = record { messages = h.messages; next_mark = next_mark }

abbrev pub with_next : ℕ → NumberedFolder → NumberedFolder
with_next n h = record { folder = record h.folder { next = n }; messages = h.messages }

abbrev pub ended_command : Command → List Response → Folder → List Message → NumberedFolder
ended_command c rs f xs = record { folder = record f { next = next_after c rs xs f.next }; messages = kept_after c rs xs }

-- the messages once these responses of the command are told
abbrev pub telling_by : Command → List Response → ℕ → NumberedFolder → Telling
telling_by c rs next_mark h = tell_responses (adds c) (telling_in next_mark (selected_first c rs h)) rs

-- the folder once these responses of the command are told
abbrev pub told_by : Command → List Response → ℕ → NumberedFolder → NumberedFolder
told_by c rs next_mark h = ended_command c rs (selected_first c rs h).folder (telling_by c rs next_mark h).messages

-- each step tells what is known
pub record TellsKnownOf (c : Command) (rs : List Response) (next_mark : ℕ) (h : NumberedFolder) : Type 0 where
  pub before : selected_first c rs h ≡ h
  pub responses : AllKnown (adds c) (telling_in next_mark h) rs
  pub after : ended_command c rs h.folder h.messages ≡ h
