-- Mailboxes as they are read, one after another.
use Rattle.std.specs.Prelude.{◌≡◌, ◌&&◌, ℕ, Bool, false, List, [], ◌∷◌, Some, is_none, bytes_eq}
use Rattle.header_addresses.specs.declared.address.Address.{Address}
use Rattle.serde_json.specs.Data.{Data, Items}
use Rattle.mail_drafts.specs.Mailboxes.{ReadsAlone}
use Rattle.draft_reading.specs.Mailboxes.{Named, named_in, AreAlone, AreAddresses}
use Rattle.draft_reading.specs.Values.{each_in}

-- these are one mailbox with this address and no name
abbrev pub are_unnamed : List Address → List ℕ → Bool
are_unnamed [] email = false
are_unnamed (a ∷ []) email = is_none a.name && bytes_eq a.email email
are_unnamed (a ∷ b ∷ list) email = false

pub record IsMailbox (d : Data) (n : Named) : Type 0 where
  pub typed : named_in d ≡ Some n
  pub alone : ReadsAlone n.email

abbrev pub IsNoMailbox : Data → Type 0
IsNoMailbox d = (n : Named) → IsMailbox d n → ⊥

pub record AreMailboxes (ds : Items) (list : List Named) : Type 0 where
  pub typed : each_in named_in ds ≡ Some list
  pub alone : AreAlone list

abbrev pub AreNoMailboxes : Items → Type 0
AreNoMailboxes ds = (list : List Named) → AreMailboxes ds list → ⊥

abbrev pub AreNoAddresses : Data → Type 0
AreNoAddresses d = (list : List Named) → AreAddresses d list → ⊥
