-- Changes of one message (RFC 9051 sections 2.3.1.1 and 2.3.2, RFC 7162 section 3.1). What a command does is made of them, and so is what
-- others do.
use Rattle.std.specs.Prelude.{◌≡◌, ℕ, ◌<◌, ◌≤◌, ◌==◌, Bool, true, false, not, List, [], ◌∷◌, ◌++◌, Some, filter, map, if◌then◌else◌}
use Rattle.honest_store.specs.StoreMail.{StoreMessage, StoreFolder, StoreMail, IsFolder, message_numbered}

-- with this folder for the one of its number
abbrev pub with_store_folder : StoreMail → StoreFolder → StoreMail
with_store_folder mail f = record mail { folders = map (λ g. if g.number == f.number then f else g) mail.folders }

-- Each change takes a mod-sequence above all earlier ones of the folder; where there are none it is 0.
abbrev pub IsAbove : Bool → ℕ → ℕ → Type 0
IsAbove true highest modseq = highest < modseq
IsAbove false highest modseq = modseq ≡ 0

abbrev pub IsFreshModseq : StoreFolder → ℕ → Type 0
IsFreshModseq f modseq = IsAbove f.has_modseqs f.highest modseq

-- ---- the folder after a change

-- with a message at the end
abbrev pub folder_with : StoreFolder → StoreMessage → ℕ → StoreFolder
folder_with f m next = record f { highest = m.modseq; uid_next = next; messages = f.messages ++ m ∷ [] }

-- without the message of this UID, which went at this mod-sequence
abbrev pub folder_without : StoreFolder → ℕ → ℕ → StoreFolder
folder_without f u modseq =
    record f { highest = modseq; messages = filter (λ m. not (m.uid == u)) f.messages; expunged = f.expunged ++ record { uid = u; modseq = modseq } ∷ [] }

abbrev pub with_flags_at : StoreMessage → List (List ℕ) → ℕ → StoreMessage
with_flags_at m flags modseq = record m { flags = flags; modseq = modseq }

-- the messages, of which the one of this UID has these flags and this mod-sequence
abbrev pub flagged_messages : List StoreMessage → ℕ → List (List ℕ) → ℕ → List StoreMessage
flagged_messages ms u flags modseq = map (λ (m : StoreMessage). if m.uid == u then with_flags_at m flags modseq else m) ms

abbrev pub folder_flagged : StoreFolder → ℕ → List (List ℕ) → ℕ → StoreFolder
folder_flagged f u flags modseq = record f { highest = modseq; messages = flagged_messages f.messages u flags modseq }

-- ---- changes

-- a message comes to the folder, at the UIDNEXT or above it
pub record AddsMessage (before : StoreMail) (n : ℕ) (m : StoreMessage) (after : StoreMail) : Type 0 where
  pub folder : StoreFolder
  pub there : IsFolder before n folder
  pub uid : folder.uid_next ≤ m.uid
  pub modseq : IsFreshModseq folder m.modseq
  pub next : ℕ
  pub above : m.uid < next
  pub after_is : after ≡ with_store_folder before (folder_with folder m next)

-- a message ends
pub record EndsMessage (before : StoreMail) (n : ℕ) (m : StoreMessage) (after : StoreMail) : Type 0 where
  pub folder : StoreFolder
  pub there : IsFolder before n folder
  pub held : message_numbered folder.messages m.uid ≡ Some m
  pub modseq : ℕ
  pub fresh : IsFreshModseq folder modseq
  pub after_is : after ≡ with_store_folder before (folder_without folder m.uid modseq)

-- a message takes these flags
pub record FlagsMessage (before : StoreMail) (n : ℕ) (u : ℕ) (flags : List (List ℕ)) (after : StoreMail) : Type 0 where
  pub folder : StoreFolder
  pub there : IsFolder before n folder
  pub message : StoreMessage
  pub held : message_numbered folder.messages u ≡ Some message
  pub modseq : ℕ
  pub fresh : IsFreshModseq folder modseq
  pub after_is : after ≡ with_store_folder before (folder_flagged folder u flags modseq)

-- A message ends in one folder and comes to another, at another UID, with its flags, date, size and octets (RFC 9051 section 6.4.8).
-- Within one folder the order of the two shows in their mod-sequences.
pub data MovesMessage (before : StoreMail) (from : ℕ) (m : StoreMessage) (to : ℕ) (u : ℕ) (after : StoreMail) : Type 0 where
  EndsFirst : (between : StoreMail) (modseq : ℕ) → EndsMessage before from m between → AddsMessage between to (record m { uid = u; modseq = modseq }) after
      → MovesMessage before from m to u after
  ComesFirst : (between : StoreMail) (modseq : ℕ) → AddsMessage before to (record m { uid = u; modseq = modseq }) between → EndsMessage between from m after
      → MovesMessage before from m to u after
