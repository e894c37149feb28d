-- The properties that a header gives of an Email or a body part (RFC 8621 sections 4.1.3 and 4.1.4).
use Rattle.std.specs.Prelude.{◌≡◌, ℕ, if◌then◌else◌, List, Option, Some, None, MatchOption, codes, map}
use Rattle.std.specs.Bool.{MatchBool}
use Rattle.std.specs.List.{AllZip, filter_map}
use Rattle.serde_json.specs.Data.{Data, null, array, object, no_members, member}
use Rattle.serde_json.specs.View.{items_of}
use Rattle.text_words.specs.Octets.{is_same_text}
use Rattle.mail_header.specs.Fields.{NameAndRaw, last_named}
use Rattle.mail_header.specs.RawForms.{raw_form}
use Rattle.email_properties.specs.HeaderAsked.{HeaderAsked}
use Rattle.email_properties.specs.declared.email_property.EmailProperty.{EmailProperty}
use Rattle.email_properties.specs.declared.email_property.EmailProperty.TheVariants as property
use Rattle.email_properties.specs.declared.header_form.HeaderForm.{HeaderForm}
use Rattle.email_properties.specs.declared.header_form.HeaderForm.TheVariants.{MessageIds, Addresses, Text, Date}
use Rattle.json_texts.specs.Texts.{text_data}
use Rattle.field_values.specs.Forms.{IsFormData}

-- ---- header:{name}:as{form}, and the same with :all

-- the last field of this name in a form; null where there is none
abbrev pub IsLastData : HeaderForm → List ℕ → List NameAndRaw → Data → Type 0
IsLastData form name fields d = MatchOption (last_named name fields) (d ≡ null) (λ raw. IsFormData form raw d)

-- a field's raw value, where it has this name, without regard to case
abbrev pub raw_named : List ℕ → NameAndRaw → Option (List ℕ)
raw_named name f = if is_same_text f.0 name then Some f.1 else None

-- the raw values of the fields of this name, in their order
abbrev pub raws_named : List ℕ → List NameAndRaw → List (List ℕ)
raws_named name fields = filter_map (raw_named name) fields

-- each field of this name in a form, in their order
abbrev pub IsListData : HeaderForm → List ℕ → List NameAndRaw → Data → Type 0
IsListData form name fields d = (items : List Data) × AllZip (IsFormData form) (raws_named name fields) items × (d ≡ array (items_of items))

abbrev pub IsHeaderPropertyData : HeaderAsked → List NameAndRaw → Data → Type 0
IsHeaderPropertyData asked fields d = MatchBool asked.all (IsListData asked.form asked.name fields d) (IsLastData asked.form asked.name fields d)

-- ---- headers: an EmailHeader for each field, in their order

abbrev pub header_data : NameAndRaw → Data
header_data f = object (member (codes "name") (text_data f.0) (member (codes "value") (text_data (raw_form f.1)) no_members))

abbrev pub headers_data : List NameAndRaw → Data
headers_data fields = array (items_of (map header_data fields))

-- ---- the convenience properties: each is the last field of a name in a form

abbrev pub convenience : EmailProperty → Option (List ℕ × HeaderForm)
convenience property.MessageId = Some (codes "message-id", MessageIds)
convenience property.InReplyTo = Some (codes "in-reply-to", MessageIds)
convenience property.References = Some (codes "references", MessageIds)
convenience property.Sender = Some (codes "sender", Addresses)
convenience property.From = Some (codes "from", Addresses)
convenience property.To = Some (codes "to", Addresses)
convenience property.Cc = Some (codes "cc", Addresses)
convenience property.Bcc = Some (codes "bcc", Addresses)
convenience property.ReplyTo = Some (codes "reply-to", Addresses)
convenience property.Subject = Some (codes "subject", Text)
convenience property.SentAt = Some (codes "date", Date)
convenience _ = None
