-- What holds of a store's mail at every moment (RFC 9051 sections 2.3.1.1 and 5.1, RFC 7162 section 3.1).
use Rattle.std.specs.Prelude.{◌≡◌, ◌≢◌, ℕ, ℤ, pos, ◌-ℤ◌, ◌^◌, ◌<◌, ◌≤◌, Bool, true, false, List, [], ◌∷◌, None, IfSome, All, Contains}
use Rattle.std.specs.List.{AllPairs}
use Rattle.imap_types.specs.Octets.{is_text}
use Rattle.imap_types.specs.Texts.{Each}
use Rattle.imap_types.specs.Folders.{folder_name}
use Rattle.imap_types.specs.Items.{kept}
use Rattle.imap_types.specs.Dates.{seconds_from}
use Rattle.honest_store.specs.StoreMail.{StoreMessage, ExpungedUid, StoreFolder, UnselectableName, NameUse, StoreMail, folder_called, message_numbered}
use Rattle.honest_store.specs.Attributes.{is_unselectable}

-- UIDs ascend, and are above this one
abbrev pub AscendByUid : ℕ → List StoreMessage → Type 0
AscendByUid u [] = Unit {0}
AscendByUid u (m ∷ ms) = (u < m.uid) × AscendByUid m.uid ms

-- mod-sequences go from 1 to the highest; where there are none each is 0
abbrev pub IsUpTo : Bool → ℕ → ℕ → Type 0
IsUpTo true highest modseq = (1 ≤ modseq) × (modseq ≤ highest)
IsUpTo false highest modseq = modseq ≡ 0

abbrev pub IsModseq : StoreFolder → ℕ → Type 0
IsModseq f modseq = IsUpTo f.has_modseqs f.highest modseq

-- the nearest second of the years 0 to 9999, in seconds since 1970-01-01T00:00:00Z
abbrev pub nearest_date : ℤ → ℤ
nearest_date date = pos (seconds_from date) -ℤ pos 62167219200

pub record IsStoreMessage (f : StoreFolder) (m : StoreMessage) : Type 0 where
  pub uid : m.uid < f.uid_next
  pub flags : kept m.flags ≡ m.flags
  pub modseq : IsModseq f m.modseq
  -- within these years
  pub date : nearest_date m.date ≡ m.date
  pub size : m.size < 2 ^ 63

pub record IsExpungedUid (f : StoreFolder) (e : ExpungedUid) : Type 0 where
  pub uid : (1 ≤ e.uid) × (e.uid < f.uid_next)
  pub modseq : IsModseq f e.modseq
  pub not_held : message_numbered f.messages e.uid ≡ None

-- no octet 0, CR or LF
abbrev pub IsToldOctet : ℕ → Type 0
IsToldOctet c = is_text c ≡ true

-- a name as it is told: INBOX in capitals, without octets 0, CR and LF
pub record IsToldName (name : List ℕ) : Type 0 where
  pub as_told : folder_name name ≡ name
  pub octets : Each is_text name

pub record IsStoreFolder (f : StoreFolder) : Type 0 where
  pub name : IsToldName f.name
  pub delimiter : IfSome f.delimiter IsToldOctet
  pub attributes : kept f.attributes ≡ f.attributes
  pub selectable : is_unselectable f.attributes ≡ false
  pub validity : (1 ≤ f.validity) × (f.validity < 2 ^ 32)
  -- at least 1 where there are mod-sequences
  pub highest : IsModseq f f.highest
  pub highest_fits : f.highest < 2 ^ 63
  pub uid_next : (1 ≤ f.uid_next) × (f.uid_next ≤ 2 ^ 32)
  pub ascend : AscendByUid 0 f.messages
  pub messages : All (IsStoreMessage f) f.messages
  pub expunged : All (IsExpungedUid f) f.expunged

pub record IsUnselectableName (mail : StoreMail) (n : UnselectableName) : Type 0 where
  pub name : IsToldName n.name
  pub delimiter : IfSome n.delimiter IsToldOctet
  pub attributes : kept n.attributes ≡ n.attributes
  pub unselectable : is_unselectable n.attributes ≡ true
  pub apart : folder_called mail.folders n.name ≡ None

abbrev pub use_of : StoreFolder → NameUse
use_of f = record { number = f.number; name = f.name; validity = f.validity }

-- one name under one validity is one folder (RFC 9051 section 2.3.1.1)
abbrev pub AgreeOnFolder : NameUse → NameUse → Type 0
AgreeOnFolder u v = u.name ≡ v.name → u.validity ≡ v.validity → u.number ≡ v.number

pub record IsStoreMail (mail : StoreMail) : Type 0 where
  pub folders : All IsStoreFolder mail.folders
  pub unselectable : All (IsUnselectableName mail) mail.unselectable
  pub numbers : AllPairs (λ f g. f.number ≢ g.number) mail.folders
  pub names : AllPairs (λ f g. f.name ≢ g.name) mail.folders
  pub unselectable_names : AllPairs (λ m n. m.name ≢ n.name) mail.unselectable
  pub uses : All (λ f. Contains mail.uses (use_of f)) mail.folders
  pub agree : AllPairs AgreeOnFolder mail.uses
