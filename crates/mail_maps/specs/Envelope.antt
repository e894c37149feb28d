-- What a header says of its Email (RFC 5322): the fields by which Emails are threaded, filtered and ordered.
use Rattle.std.specs.Prelude.{◌≡◌, ℕ, ℤ, List, [], ◌∷◌, ◌++◌, Option, Some, None, codes}
use Rattle.std.specs.Option.{option_map, unwrap_or}
use Rattle.mail_header.specs.Fields.{NameAndRaw, IsHeader, last_named}
use Rattle.mail_header.specs.RawForms.{IsTextForm, IsSearchForm}
use Rattle.loose_addresses.specs.LooseForms.{IsLooseAddressesForm}
use Rattle.mail_header.specs.Bracketed.{IsNamesForm}
use Rattle.header_dates.specs.Dates.{IsDateForm}
use Rattle.header_addresses.specs.declared.address.Address.{Address}
use Rattle.header_dates.specs.declared.date.Moment.{Moment}
use Rattle.thread_rule.specs.BaseSubject.{IsBaseOf}
use Rattle.thread_rule.specs.Ids.{each_once}
use Rattle.mail_maps.specs.declared.envelope.Envelope.{Envelope}
use Rattle.mail_maps.specs.declared.envelope.AddressField.{AddressField}

-- the text form of a field, where there is one
pub data IsFieldText : Option (List ℕ) → Option (List ℕ) → Type 0 where
  NoText : IsFieldText None None
  Text : (raw text : List ℕ) → IsTextForm text raw → IsFieldText (Some raw) (Some text)

-- the text in which an address field is searched, where there is one
pub data IsSearchText : Option (List ℕ) → Option (List ℕ) → Type 0 where
  NoSearchText : IsSearchText None None
  SearchText : (raw text : List ℕ) → IsSearchForm text raw → IsSearchText (Some raw) (Some text)

-- a name, or this where it is missing or empty
abbrev pub name_or : Option (List ℕ) → List ℕ → List ℕ
name_or None other = other
name_or (Some []) other = other
name_or (Some (c ∷ t)) other = c ∷ t

-- the name of a mailbox, else its address
abbrev pub shown_name : Address → List ℕ
shown_name a = name_or a.name a.email

-- that of the first mailbox
abbrev pub first_mailbox : List Address → Option (List ℕ)
first_mailbox [] = None
first_mailbox (a ∷ list) = Some (shown_name a)

abbrev pub first_name : Option (List Address) → Option (List ℕ)
first_name None = None
first_name (Some list) = first_mailbox list

-- how the first mailbox of a field is shown
pub data IsFirstOf : Option (List ℕ) → Option (List ℕ) → Type 0 where
  NoMailbox : IsFirstOf None None
  First : (raw : List ℕ) (list : Option (List Address)) → IsLooseAddressesForm raw list → IsFirstOf (Some raw) (first_name list)

pub record IsAddressFieldOf (raw : Option (List ℕ)) (p : AddressField) : Type 0 where
  pub text : IsSearchText raw p.text
  pub first : IsFirstOf raw p.first

-- the seconds of a date field
pub data IsTimeOf : Option (List ℕ) → Option ℤ → Type 0 where
  NoDate : IsTimeOf None None
  Date : (raw : List ℕ) (moment : Option Moment) → IsDateForm raw moment → IsTimeOf (Some raw) (option_map (λ m. m.seconds) moment)

-- the ids of a field
pub data AreIdsOf : Option (List ℕ) → List (List ℕ) → Type 0 where
  NoIds : AreIdsOf None []
  Ids : (raw : List ℕ) (names : Option (List (List ℕ))) → IsNamesForm names raw → AreIdsOf (Some raw) (unwrap_or names [])

-- the ids of References, In-Reply-To and Message-ID, in this order, each once, where it stands first
pub record AreAllIds (fields : List NameAndRaw) (ids : List (List ℕ)) : Type 0 where
  pub references : List (List ℕ)
  pub in_reply_to : List (List ℕ)
  pub message_id : List (List ℕ)
  pub are_references : AreIdsOf (last_named (codes "references") fields) references
  pub are_in_reply_to : AreIdsOf (last_named (codes "in-reply-to") fields) in_reply_to
  pub are_message_id : AreIdsOf (last_named (codes "message-id") fields) message_id
  pub all : ids ≡ each_once (references ++ in_reply_to ++ message_id)

-- what the fields of a header say; of two with one name the last counts
pub record SaysEnvelope (fields : List NameAndRaw) (e : Envelope) : Type 0 where
  pub subject : IsFieldText (last_named (codes "subject") fields) e.subject
  pub base : IsBaseOf (unwrap_or e.subject []) e.base
  pub from : IsAddressFieldOf (last_named (codes "from") fields) e.from
  pub to : IsAddressFieldOf (last_named (codes "to") fields) e.to
  pub cc : IsSearchText (last_named (codes "cc") fields) e.cc
  pub bcc : IsSearchText (last_named (codes "bcc") fields) e.bcc
  pub sent_at : IsTimeOf (last_named (codes "date") fields) e.sent_at
  pub ids : AreAllIds fields e.ids

pub record IsEnvelopeOf (header : List ℕ) (e : Envelope) : Type 0 where
  pub fields : List NameAndRaw
  pub end : ℕ
  pub is_header : IsHeader fields end header
  pub says : SaysEnvelope fields e
