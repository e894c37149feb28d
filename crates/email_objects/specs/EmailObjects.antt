-- The objects of an Email/get (RFC 8621 section 4.2) and of an Email/parse (section 4.9), with the properties that are asked. Members stand
-- in the order of their names' octets.
use Rattle.std.specs.Prelude.{◌≡◌, ℕ, Bool, true, false, not, if◌then◌else◌, List, [], ◌∷◌, Option, Some, option_map, IsSomeAnd}
use Rattle.std.specs.Bool.{MatchBool}
use Rattle.std.specs.List.{filter}
use Rattle.serde_json.specs.Data.{Data, object, Members, no_members}
use Rattle.blob_store.specs.Uploads.{blob_id}
use Rattle.mail_header.specs.Fields.{NameAndRaw, IsHeader}
use Rattle.mail_maps.specs.declared.row.EmailRow.{EmailRow}
use Rattle.email_properties.specs.EmailProperties.{email_parse_defaults, is_of_body}
use Rattle.email_properties.specs.PartProperties.{part_defaults}
use Rattle.email_properties.specs.Wanted.{EmailAsked, needs_body}
use Rattle.email_properties.specs.declared.email_property.EmailProperty.{EmailProperty}
use Rattle.email_properties.specs.declared.email_property.EmailProperty.TheVariants.{Id}
use Rattle.body_parts.specs.BodyProperties.{AddsBodyProperties}
use Rattle.body_parts.specs.Messages.{MessageData}
use Rattle.email_objects.specs.Facts.{FactsData, row_facts, message_facts, row_message}
use Rattle.email_objects.specs.Properties.{needs_email_header, PutsEmailProperties}

-- the fields of the header at the front of the octets; none where no property of the header is asked
pub record AreFields (properties : List EmailProperty) (header : List ℕ) (fields : List NameAndRaw) : Type 0 where
  pub end : ℕ
  pub is_header : IsHeader fields end (if needs_email_header properties then header else [])

abbrev pub needs_no_body : EmailProperty → Bool
needs_no_body p = not (is_of_body p)

-- those of these for which the body isn't needed
abbrev pub without_body : List EmailProperty → List EmailProperty
without_body properties = filter needs_no_body properties

-- where a property of the body is asked, the message is there, and those of the body are put
abbrev pub AddsBody : Option MessageData → EmailAsked → Members → Members → Type 0
AddsBody message asked before after = MatchBool (needs_body asked) (IsSomeAnd message (λ m. AddsBodyProperties m asked before after)) (after ≡ before)

-- an object with these properties, for which the body isn't needed, and those of the body that are asked
pub record IsObject (e : FactsData) (properties : List EmailProperty) (message : Option MessageData) (asked : EmailAsked) (d : Data) : Type 0 where
  pub told : Members
  pub are_told : PutsEmailProperties e properties no_members told
  pub all : Members
  pub with_body : AddsBody message asked told all
  pub is : d ≡ object all

-- The object of an Email, whose id always is among its members. The octets of its message may be missing where no property of the body is
-- asked.
pub record IsEmailObject (row : EmailRow) (octets : Option (List ℕ)) (asked : EmailAsked) (d : Data) : Type 0 where
  pub fields : List NameAndRaw
  pub are_fields : AreFields asked.properties row.header fields
  pub is_object : IsObject (row_facts row fields) (Id ∷ without_body asked.properties) (option_map (row_message row) octets) asked d

-- The object of octets that are no Email. Where their blob id leaves no number for their parts, these have none.
pub record IsParsedObject (blob_id : Option (List ℕ)) (m : MessageData) (asked : EmailAsked) (d : Data) : Type 0 where
  pub fields : List NameAndRaw
  pub are_fields : AreFields asked.properties m.octets fields
  pub is_object : IsObject (message_facts blob_id m fields) (without_body asked.properties) (Some m) asked d

-- the default properties of an Email/parse, with all body values, none of them cut
abbrev pub shown_asked : EmailAsked
shown_asked = record {
  properties = email_parse_defaults;
  body = record { parts = part_defaults; text_values = false; html_values = false; all_values = true; max_octets = 0 };
}

-- the object that `show` writes of octets, whose blob id is that of an upload
abbrev pub IsShownObject : List ℕ → Data → Type 0
IsShownObject octets d = IsParsedObject (Some (blob_id octets)) (record { octets = octets; id = Some (blob_id octets) }) shown_asked d
