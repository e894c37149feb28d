-- A folder while responses are told to it, beside the index of all folders.
use Rattle.std.specs.Prelude.{◌≡◌, ℕ, ◌-◌, ◌^◌, ◌<◌, ◌≤◌, List, [], ◌∷◌, Option, None, ◌&&◌, ◌==◌, if◌then◌else◌, Result, Ok, OnOk, OnErr}
use Rattle.std.specs.Prelude.{Bool, true, is_some}
use Rattle.told_folder.specs.Keyed.{Ascends, put_keyed}
use Rattle.told_folder.specs.Folders.{uid_of, held_in, with_messages}
use Rattle.told_folder.specs.Index.{IsIndexed}
use Rattle.told_folder.specs.Tell.{Telling}
use Rattle.told_folder.specs.declared.message.Message.{Message}
use Rattle.told_folder.specs.declared.message.Folder.{Folder}
use Rattle.told_folder.specs.declared.message.NumberedFolder.{NumberedFolder}
use Rattle.told_folder.specs.ToldBy.{told_by, telling_by, TellsKnownOf}
use Rattle.imap_types.specs.declared.command.Command.{Command}
use Rattle.imap_types.specs.declared.response.Response.{Response}
use Rattle.told_folder.specs.declared.telling.FolderTelling.{FolderTelling}
use Rattle.std.specs.declared.alloc.AllocError.{AllocError}

abbrev pub telling_of : FolderTelling → Telling
telling_of o = record { messages = o.messages; next_mark = o.next_mark }

-- the index of these folders, of which the open one has other messages now
pub record IsIndexOf (hs : List NumberedFolder) (w : FolderTelling) : Type 0 where
  pub there : is_some (held_in hs w.folder) ≡ true
  pub indexed : IsIndexed (with_messages hs w.folder w.messages) w.marks w.next_mark

-- the count never falls, and where it stands, short of its last value, nothing has changed
pub record GoesOn (old new : FolderTelling) : Type 0 where
  pub folder : new.folder ≡ old.folder
  pub rises : old.changes ≤ new.changes
  pub stands : old.changes ≡ new.changes → new.changes < 2 ^ 64 - 1 → new.messages ≡ old.messages
  pub draws : old.changes ≡ new.changes → new.changes < 2 ^ 64 - 1 → new.next_mark ≡ old.next_mark

-- the open folder comes to what was to be told
pub record Goes (old new : FolderTelling) (t : Telling) : Type 0 where
  pub known : t ≡ telling_of old → new.changes ≡ old.changes
  pub on : GoesOn old new
  pub ascends : Ascends uid_of old.messages → Ascends uid_of new.messages
  pub told : telling_of new ≡ t
  pub index : (hs : List NumberedFolder) → IsIndexOf hs old → IsIndexOf hs new

-- the message, which is held, has these flags
pub record IsFlagged (old new : FolderTelling) (x : Message) (flags : List (List ℕ)) (result : Result (Unit {0}) AllocError) : Type 0 where
  pub on : GoesOn old new
  pub marks : new.marks ≡ old.marks
  pub next_mark : new.next_mark ≡ old.next_mark
  pub told : OnOk result (new.messages ≡ put_keyed uid_of (record x { flags = flags }) old.messages)
  pub err : OnErr result (new.messages ≡ old.messages)
  pub known : x.flags ≡ flags → OnOk result (new.changes ≡ old.changes)

-- the same at Ok; out of memory the index and the count are right all the same. Where nothing new is told the count stands
pub record GoesWith (Known : Type 0) (old new : FolderTelling) (t : Telling) (result : Result (Unit {0}) AllocError) : Type 0 where
  pub on : GoesOn old new
  pub ascends : Ascends uid_of old.messages → Ascends uid_of new.messages
  pub told : OnOk result (telling_of new ≡ t)
  pub index : (hs : List NumberedFolder) → IsIndexOf hs old → IsIndexOf hs new
  pub known : Known → OnOk result (new.changes ≡ old.changes)

abbrev pub GoesOk : FolderTelling → FolderTelling → Telling → Result (Unit {0}) AllocError → Type 0
GoesOk old new t result = GoesWith (t ≡ telling_of old) old new t result

-- what the index has at a mark after the marks of those messages whose UIDs go are taken out
abbrev pub cleared : (ℕ → Bool) → List Message → ℕ → Option (ℕ × ℕ) → Option (ℕ × ℕ)
cleared gone [] q o = o
cleared gone (x ∷ xs) q o = cleared gone xs q (if gone x.uid && x.mark == q then None else o)

-- ---- the folder with its messages

abbrev pub held_of : FolderTelling → Folder → NumberedFolder
held_of w f = record { folder = f; messages = w.messages }

-- the fields of the folder that no exchange of its own tells stay, and where the count stands all of them do
pub record Keeps (old new : FolderTelling) (f g : Folder) : Type 0 where
  pub same : g ≡ record f { validity = g.validity; modseq = g.modseq; next = g.next }
  pub stands : old.changes ≡ new.changes → new.changes < 2 ^ 64 - 1 → g ≡ f

-- at Ok the folder comes to what was to be told; no mark is drawn
pub record StepsOk (old new : FolderTelling) (f g : Folder) (h : NumberedFolder) (result : Result (Unit {0}) AllocError) : Type 0 where
  pub keeps : Keeps old new f g
  pub on : GoesOn old new
  pub ascends : Ascends uid_of old.messages → Ascends uid_of new.messages
  pub index : (hs : List NumberedFolder) → IsIndexOf hs old → IsIndexOf hs new
  pub next_mark : new.next_mark ≡ old.next_mark
  pub told : OnOk result (held_of new g ≡ h)
  pub known : h ≡ held_of old f → OnOk result (new.changes ≡ old.changes)

abbrev pub Steps : FolderTelling → FolderTelling → Folder → Folder → NumberedFolder → Type 0
Steps old new f g h = StepsOk old new f g h (Ok tt)

-- at Ok the folder and the next mark come to what the command's responses tell
pub record Tells (old new : FolderTelling) (f g : Folder) (c : Command) (rs : List Response) (result : Result (Unit {0}) AllocError) : Type 0 where
  pub keeps : Keeps old new f g
  pub on : GoesOn old new
  pub ascends : Ascends uid_of old.messages → Ascends uid_of new.messages
  pub index : (hs : List NumberedFolder) → IsIndexOf hs old → IsIndexOf hs new
  pub told : OnOk result (held_of new g ≡ told_by c rs old.next_mark (held_of old f))
  pub next_mark : OnOk result (new.next_mark ≡ (telling_by c rs old.next_mark (held_of old f)).next_mark)
  pub known : TellsKnownOf c rs old.next_mark (held_of old f) → OnOk result (new.changes ≡ old.changes)
