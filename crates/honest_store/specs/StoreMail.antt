-- The mail of a store (RFC 9051 sections 2.3 and 5.1, RFC 7162 section 3.1), and look-ups in it.
use Rattle.std.specs.Prelude.{◌≡◌, ℕ, ℤ, ◌==◌, Bool, List, Option, Some, find, bytes_eq}
use Rattle.std.specs.List.{list_any}
use Rattle.imap_types.specs.Folders.{folder_name}

-- A message. Its date (RFC 9051 section 2.3.3), its size (section 2.3.4) and its octets are what they were from the first.
pub record StoreMessage : Type 0 where
  pub uid : ℕ
  pub flags : List (List ℕ)
  pub modseq : ℕ
  pub date : ℤ
  pub size : ℕ
  pub octets : List ℕ

-- the UID of a message that is held no more, and the mod-sequence at which it went (RFC 7162 section 5.3)
pub record ExpungedUid : Type 0 where
  pub uid : ℕ
  pub modseq : ℕ

-- A mailbox that can be selected. Its number stands for itself: no other ever has it, and the validity and the having of
-- mod-sequences stay with it. So a mailbox that comes to another UIDVALIDITY is another folder under the same name.
pub record StoreFolder : Type 0 where
  pub number : ℕ
  pub name : List ℕ
  pub delimiter : Option ℕ
  pub attributes : List (List ℕ)
  pub validity : ℕ
  pub has_modseqs : Bool
  pub highest : ℕ
  pub uid_next : ℕ
  pub messages : List StoreMessage
  pub expunged : List ExpungedUid

-- a name that LIST tells and that can't be selected (RFC 9051 section 7.3.1)
pub record UnselectableName : Type 0 where
  pub name : List ℕ
  pub delimiter : Option ℕ
  pub attributes : List (List ℕ)

-- a folder has this name under this validity, or had it once
pub record NameUse : Type 0 where
  pub number : ℕ
  pub name : List ℕ
  pub validity : ℕ

-- the folders, the names that can't be selected, and each name that a folder has or had
pub record StoreMail : Type 0 where
  pub folders : List StoreFolder
  pub unselectable : List UnselectableName
  pub uses : List NameUse

-- ---- look-ups

abbrev pub folder_numbered : List StoreFolder → ℕ → Option StoreFolder
folder_numbered fs n = find (λ f. f.number == n) fs

-- by a name as it is told or sent, INBOX in letters of any case
abbrev pub folder_called : List StoreFolder → List ℕ → Option StoreFolder
folder_called fs name = find (λ f. bytes_eq f.name (folder_name name)) fs

abbrev pub message_numbered : List StoreMessage → ℕ → Option StoreMessage
message_numbered ms u = find (λ m. m.uid == u) ms

-- the folder of this number
abbrev pub IsFolder : StoreMail → ℕ → StoreFolder → Type 0
IsFolder mail n f = folder_numbered mail.folders n ≡ Some f

-- the folder of this name
abbrev pub IsFolderNamed : StoreMail → List ℕ → StoreFolder → Type 0
IsFolderNamed mail name f = folder_called mail.folders name ≡ Some f

abbrev pub has_flag : StoreMessage → List ℕ → Bool
has_flag m flag = list_any (λ f. bytes_eq f flag) m.flags
