-- The properties of an Email for which its body isn't needed (RFC 8621 sections 4.1.1 to 4.1.3).
use Rattle.std.specs.Prelude.{◌≡◌, ℕ, Bool, true, is_some, List, [], ◌∷◌, Option, Some, None, MatchOption}
use Rattle.std.specs.List.{list_any}
use Rattle.std.specs.Str.Lossy.{utf8_lossy}
use Rattle.serde_json.specs.Data.{unsigned, Data, null, boolean, number, object, Members, no_members, member, put}
use Rattle.mail_header.specs.Fields.{NameAndRaw}
use Rattle.mail_maps.specs.declared.row.EmailRow.{EmailRow}
use Rattle.jmap_arguments.specs.Ids.{mailbox_letter, email_letter, thread_letter, id_text, id_data}
use Rattle.email_properties.specs.EmailProperties.{email_key}
use Rattle.email_properties.specs.declared.email_property.EmailProperty.{EmailProperty}
use Rattle.email_properties.specs.declared.email_property.EmailProperty.TheVariants as property
use Rattle.json_texts.specs.Texts.{optional_text}
use Rattle.field_values.specs.HeaderProperties.{convenience, IsLastData, IsHeaderPropertyData, headers_data}
use Rattle.field_values.specs.UtcDates.{IsUtcData}
use Rattle.body_parts.specs.Steps.{InTurn}
use Rattle.email_objects.specs.Facts.{FactsData}

-- ---- what is told of an Email alone; null of other octets

abbrev pub email_id : Option EmailRow → Data
email_id None = null
email_id (Some row) = id_data email_letter row.number

abbrev pub thread_id : Option EmailRow → Data
thread_id None = null
thread_id (Some row) = id_data thread_letter row.thread

-- true at the id of the Mailbox
abbrev pub mailbox_member : ℕ → Members
mailbox_member folder = member (id_text mailbox_letter folder) (boolean true) no_members

-- an Email is in one Mailbox
abbrev pub mailbox_ids : Option EmailRow → Data
mailbox_ids None = null
mailbox_ids (Some row) = object (mailbox_member row.folder)

-- true at each of these, put to those before
abbrev pub with_keywords : List (List ℕ) → Members → Members
with_keywords [] before = before
with_keywords (k ∷ ks) before = with_keywords ks (put (utf8_lossy k) (boolean true) before)

abbrev pub keywords_data : Option EmailRow → Data
keywords_data None = null
keywords_data (Some row) = object (with_keywords row.keywords no_members)

abbrev pub IsReceivedAt : Option EmailRow → Data → Type 0
IsReceivedAt None d = d ≡ null
IsReceivedAt (Some row) d = IsUtcData row.received d

-- ---- what the header tells

abbrev pub is_of_email_header : EmailProperty → Bool
is_of_email_header property.Headers = true
is_of_email_header (property.Header asked) = true
is_of_email_header p = is_some (convenience p)

-- whether the header is needed for one of these
abbrev pub needs_email_header : List EmailProperty → Bool
needs_email_header properties = list_any is_of_email_header properties

-- the last field of a convenience property, in its form; another property has no data
abbrev pub IsConvenienceData : List NameAndRaw → EmailProperty → Data → Type 0
IsConvenienceData fields p d = MatchOption (convenience p) ⊥ (λ c. IsLastData c.1 c.0 fields d)

-- ---- the data of a property; one of the body has none

abbrev pub IsEmailPropertyData : FactsData → EmailProperty → Data → Type 0
IsEmailPropertyData e property.Id d = d ≡ email_id e.row
IsEmailPropertyData e property.BlobId d = d ≡ optional_text e.blob_id
IsEmailPropertyData e property.ThreadId d = d ≡ thread_id e.row
IsEmailPropertyData e property.MailboxIds d = d ≡ mailbox_ids e.row
IsEmailPropertyData e property.Keywords d = d ≡ keywords_data e.row
IsEmailPropertyData e property.Size d = d ≡ number (unsigned e.size)
IsEmailPropertyData e property.ReceivedAt d = IsReceivedAt e.row d
IsEmailPropertyData e property.Headers d = d ≡ headers_data e.fields
IsEmailPropertyData e (property.Header asked) d = IsHeaderPropertyData asked e.fields d
IsEmailPropertyData e p d = IsConvenienceData e.fields p d

-- ---- properties that are put, each at its key

abbrev pub PutsEmailProperty : FactsData → EmailProperty → Members → Members → Type 0
PutsEmailProperty e p before after = (d : Data) × IsEmailPropertyData e p d × (after ≡ put (email_key p) d before)

abbrev pub PutsEmailProperties : FactsData → List EmailProperty → Members → Members → Type 0
PutsEmailProperties e properties before after = InTurn (PutsEmailProperty e) properties before after
