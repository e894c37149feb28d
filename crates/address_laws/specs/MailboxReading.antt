-- The mailboxes of a draft, as a reader finds them in its message (RFC 5322 sections 3.6.2 and 3.6.3).
use Rattle.std.specs.Prelude.{ℕ, List, [], ◌∷◌, map, codes, Option, Some, None}
use Rattle.header_addresses.specs.declared.address.Address.{Address}
use Rattle.header_addresses.specs.Names.{IsAddressesForm}
use Rattle.loose_addresses.specs.LooseForms.{IsLooseAddressesForm}
use Rattle.mail_drafts.specs.declared.draft.Draft.{Draft}
use Rattle.mail_drafts.specs.declared.mailbox.Mailbox.{Mailbox}
use Rattle.message_laws.specs.ReadBack.{ReadsWhere}

-- a name of no octet isn't written
abbrev pub shown_name : Option (List ℕ) → Option (List ℕ)
shown_name None = None
shown_name (Some []) = None
shown_name (Some (c ∷ name)) = Some (c ∷ name)

abbrev pub shown_mailbox : Mailbox → Address
shown_mailbox m = record { name = shown_name m.name; email = m.email }

-- The raw value is a list of addresses, which are these mailboxes, in order: to a reader who goes by the grammar alone (RFC 5322
-- section 3.4), and to one who reads what is no such list as far as he can.
pub record AreMailboxesOf (list : List Mailbox) (raw : List ℕ) : Type 0 where
  pub by_grammar : IsAddressesForm raw (Some (map shown_mailbox list))
  pub loosely : IsLooseAddressesForm raw (Some (map shown_mailbox list))

-- the originators and the recipients of the octets are those of the draft (RFC 8621 section 4.1.2.3)
pub record ReadsMailboxes (d : Draft) (t : List ℕ) : Type 0 where
  pub from : ReadsWhere (codes "From") AreMailboxesOf d.from t
  pub sender : ReadsWhere (codes "Sender") AreMailboxesOf d.sender t
  pub reply_to : ReadsWhere (codes "Reply-To") AreMailboxesOf d.reply_to t
  pub to : ReadsWhere (codes "To") AreMailboxesOf d.to t
  pub cc : ReadsWhere (codes "Cc") AreMailboxesOf d.cc t
  pub bcc : ReadsWhere (codes "Bcc") AreMailboxesOf d.bcc t
