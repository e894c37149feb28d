-- No number of an Email's object has a fraction.
use Rattle.std.proofs.Common.{◌≡◌, ◌∙◌, ℕ, Bool, true, false, refl, ap, List, [], ◌∷◌, Option, Some, None}
use Rattle.std.specs.Prelude.{MatchOption, IsSomeAnd}
use Rattle.std.specs.Bool.{MatchBool}
use Rattle.std.specs.Str.Lossy.{utf8_lossy}
use Rattle.serde_json.specs.Data.{Data, boolean, object, Members, no_members, put}
use Rattle.serde_json.specs.Written.{has_float, members_have_float}
use Rattle.mail_header.specs.Fields.{NameAndRaw}
use Rattle.mail_maps.specs.declared.row.EmailRow.{EmailRow}
use Rattle.json_texts.proofs.WholeLemmas.{text_whole, put_whole}
use Rattle.email_properties.specs.EmailProperties.{email_key}
use Rattle.email_properties.specs.Wanted.{EmailAsked, needs_body}
use Rattle.email_properties.specs.declared.email_property.EmailProperty.{EmailProperty}
use Rattle.email_properties.specs.declared.email_property.EmailProperty.TheVariants.{Id, BlobId, ThreadId, MailboxIds, Keywords, Size, ReceivedAt, Headers, Header}
use Rattle.email_properties.specs.declared.header_form.HeaderForm.{HeaderForm}
use Rattle.field_values.specs.HeaderProperties.{convenience, IsLastData}
use Rattle.field_values.specs.UtcDates.{utc_moment}
use Rattle.field_values.proofs.FormLemmas.{moment_whole}
use Rattle.field_values.proofs.PropertyLemmas.{last_whole, property_whole, headers_whole}
use Rattle.body_parts.specs.BodyProperties.{AddsBodyProperties}
use Rattle.body_parts.specs.Messages.{MessageData}
use Rattle.body_parts.proofs.WholeLemmas.{bodies_whole}
use Rattle.body_parts.proofs.StepLemmas.{turn_whole}
use Rattle.email_objects.specs.EmailObjects.{AddsBody}
use Rattle.email_objects.specs.Facts.{FactsData}
use Rattle.email_objects.specs.Properties.{email_id, thread_id, mailbox_ids, with_keywords, keywords_data}
use Rattle.email_objects.specs.Properties.{IsReceivedAt, IsConvenienceData, IsEmailPropertyData, PutsEmailProperty, PutsEmailProperties}

-- ---- what is told of an Email alone

id_whole : (o : Option EmailRow) → has_float (email_id o) ≡ false
id_whole None = refl
id_whole (Some row) = refl

thread_whole : (o : Option EmailRow) → has_float (thread_id o) ≡ false
thread_whole None = refl
thread_whole (Some row) = refl

mailbox_whole : (o : Option EmailRow) → has_float (mailbox_ids o) ≡ false
mailbox_whole None = refl
mailbox_whole (Some row) = refl

with_keywords_whole : (ks : List (List ℕ)) (before : Members) → members_have_float before ≡ false → members_have_float (with_keywords ks before) ≡ false
with_keywords_whole [] before h = h
with_keywords_whole (k ∷ ks) before h =
    with_keywords_whole ks (put (utf8_lossy k) (boolean true) before) (put_whole (utf8_lossy k) (boolean true) before refl h)

keywords_whole : (o : Option EmailRow) → has_float (keywords_data o) ≡ false
keywords_whole None = refl
keywords_whole (Some row) = with_keywords_whole row.keywords no_members refl

received_whole : (o : Option EmailRow) (d : Data) → IsReceivedAt o d → has_float d ≡ false
received_whole None d h = ap has_float h
received_whole (Some row) d h = moment_whole (Some (utc_moment row.received)) d h

-- ---- properties

convenience_whole : (fields : List NameAndRaw) (p : EmailProperty) (d : Data) → IsConvenienceData fields p d → has_float d ≡ false
convenience_whole fields p d h = by (convenience p) h
  where
    by : (o : Option (List ℕ × HeaderForm)) → MatchOption o ⊥ (λ c. IsLastData c.1 c.0 fields d) → has_float d ≡ false
    by None h = absurd h
    by (Some c) h = last_whole c.1 c.0 fields d h

data_whole : (e : FactsData) (p : EmailProperty) (d : Data) → IsEmailPropertyData e p d → has_float d ≡ false
data_whole e Id d h = ap has_float h ∙ id_whole e.row
data_whole e BlobId d h = ap has_float h ∙ text_whole e.blob_id
data_whole e ThreadId d h = ap has_float h ∙ thread_whole e.row
data_whole e MailboxIds d h = ap has_float h ∙ mailbox_whole e.row
data_whole e Keywords d h = ap has_float h ∙ keywords_whole e.row
data_whole e Size d h = ap has_float h
data_whole e ReceivedAt d h = received_whole e.row d h
data_whole e Headers d h = ap has_float h ∙ headers_whole e.fields
data_whole e (Header asked) d h = property_whole asked e.fields d h
data_whole e p d h = convenience_whole e.fields p d h

put_one_whole : (e : FactsData) (p : EmailProperty) (before after : Members) → PutsEmailProperty e p before after → members_have_float before ≡ false
    → members_have_float after ≡ false
put_one_whole e p before after h g = ap members_have_float h.2 ∙ put_whole (email_key p) h.0 before (data_whole e p h.0 h.1) g

-- ---- objects

body_whole : (m : Option MessageData) (asked : EmailAsked) (before after : Members) → AddsBody m asked before after → members_have_float before ≡ false
    → members_have_float after ≡ false
body_whole m asked before after h g = by (needs_body asked) m h
  where
    by : (b : Bool) (m : Option MessageData) → MatchBool b (IsSomeAnd m (λ m. AddsBodyProperties m asked before after)) (after ≡ before) → members_have_float after ≡ false
    by true None h = absurd h
    by true (Some m) h = bodies_whole m asked before after h g
    by false m h = ap members_have_float h ∙ g

-- no number of an object has a fraction
pub object_whole : (e : FactsData) (ps : List EmailProperty) (m : Option MessageData) (asked : EmailAsked) (told all : Members) → PutsEmailProperties e ps no_members told
    → AddsBody m asked told all → has_float (object all) ≡ false
object_whole e ps m asked told all h g = body_whole m asked told all g (turn_whole (PutsEmailProperty e) (put_one_whole e) ps no_members told h refl)
