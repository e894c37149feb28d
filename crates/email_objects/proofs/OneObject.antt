-- An Email has one object with the properties that are asked, and so have octets that are no Email.
use Rattle.std.proofs.Common.{◌≡◌, ◌∙◌, ℕ, Bool, true, false, refl, sym, ap, subst, List, ◌∷◌, Option, Some, None}
use Rattle.std.specs.Prelude.{MatchOption, IsSomeAnd, option_map}
use Rattle.std.specs.Bool.{MatchBool}
use Rattle.serde_json.specs.Data.{Data, object, Members, no_members, put}
use Rattle.mail_header.specs.Fields.{NameAndRaw}
use Rattle.mail_header.proofs.FieldLemmas.{one_header}
use Rattle.mail_maps.specs.declared.row.EmailRow.{EmailRow}
use Rattle.email_properties.specs.EmailProperties.{email_key}
use Rattle.email_properties.specs.Wanted.{EmailAsked, needs_body}
use Rattle.email_properties.specs.declared.email_property.EmailProperty.{EmailProperty}
use Rattle.email_properties.specs.declared.email_property.EmailProperty.TheVariants.{Id, BlobId, ThreadId, MailboxIds, Keywords, Size, ReceivedAt, Headers, Header}
use Rattle.email_properties.specs.declared.header_form.HeaderForm.{HeaderForm}
use Rattle.field_values.specs.HeaderProperties.{convenience, IsLastData}
use Rattle.field_values.specs.UtcDates.{utc_moment}
use Rattle.field_values.proofs.FormLemmas.{one_moment_data}
use Rattle.field_values.proofs.PropertyLemmas.{one_last, one_property}
use Rattle.body_parts.specs.BodyProperties.{AddsBodyProperties}
use Rattle.body_parts.specs.Messages.{MessageData}
use Rattle.body_parts.proofs.OneBody.{one_bodies}
use Rattle.body_parts.proofs.StepLemmas.{one_turn}
use Rattle.email_objects.specs.EmailObjects.{AreFields, without_body, AddsBody, IsObject, IsEmailObject, IsParsedObject}
use Rattle.email_objects.specs.Facts.{FactsData, row_facts, message_facts, row_message}
use Rattle.email_objects.specs.Properties.{IsReceivedAt, IsConvenienceData, IsEmailPropertyData, PutsEmailProperty}

-- ---- properties

one_received : (o : Option EmailRow) (x y : Data) → IsReceivedAt o x → IsReceivedAt o y → x ≡ y
one_received None x y g h = g ∙ sym h
one_received (Some row) x y g h = one_moment_data (Some (utc_moment row.received)) (Some (utc_moment row.received)) x y refl g h

one_convenience : (fields : List NameAndRaw) (p : EmailProperty) (x y : Data) → IsConvenienceData fields p x → IsConvenienceData fields p y → x ≡ y
one_convenience fields p x y g h = by (convenience p) g h
  where
    by : (o : Option (List ℕ × HeaderForm)) → MatchOption o ⊥ (λ c. IsLastData c.1 c.0 fields x) → MatchOption o ⊥ (λ c. IsLastData c.1 c.0 fields y) → x ≡ y
    by None g h = absurd g
    by (Some c) g h = one_last c.1 c.0 fields x y g h

one_data : (e : FactsData) (p : EmailProperty) (x y : Data) → IsEmailPropertyData e p x → IsEmailPropertyData e p y → x ≡ y
one_data e Id x y g h = g ∙ sym h
one_data e BlobId x y g h = g ∙ sym h
one_data e ThreadId x y g h = g ∙ sym h
one_data e MailboxIds x y g h = g ∙ sym h
one_data e Keywords x y g h = g ∙ sym h
one_data e Size x y g h = g ∙ sym h
one_data e ReceivedAt x y g h = one_received e.row x y g h
one_data e Headers x y g h = g ∙ sym h
one_data e (Header asked) x y g h = one_property asked e.fields x y g h
one_data e p x y g h = one_convenience e.fields p x y g h

one_put : (e : FactsData) (p : EmailProperty) (before x y : Members) → PutsEmailProperty e p before x → PutsEmailProperty e p before y → x ≡ y
one_put e p before x y g h = g.2 ∙ ap (λ (d : Data). put (email_key p) d before) (one_data e p g.0 h.0 g.1 h.1) ∙ sym h.2

-- ---- objects

one_body : (m : Option MessageData) (asked : EmailAsked) (before x y : Members) → AddsBody m asked before x → AddsBody m asked before y → x ≡ y
one_body m asked before x y g h = by (needs_body asked) m g h
  where
    by : (b : Bool) (m : Option MessageData) → MatchBool b (IsSomeAnd m (λ m. AddsBodyProperties m asked before x)) (x ≡ before)
        → MatchBool b (IsSomeAnd m (λ m. AddsBodyProperties m asked before y)) (y ≡ before) → x ≡ y
    by true None g h = absurd g
    by true (Some m) g h = one_bodies m asked before x y g h
    by false m g h = g ∙ sym h

one_object : (e : FactsData) (ps : List EmailProperty) (m : Option MessageData) (asked : EmailAsked) (x y : Data) → IsObject e ps m asked x → IsObject e ps m asked y → x ≡ y
one_object e ps m asked x y g h =
    let told = one_turn (PutsEmailProperty e) (one_put e) ps no_members g.told h.told g.are_told h.are_told in
    let all = one_body m asked h.told g.all h.all (subst (λ (ms : Members). AddsBody m asked ms g.all) told g.with_body) h.with_body in
    g.is ∙ ap (λ (ms : Members). object ms) all ∙ sym h.is

one_fields : (ps : List EmailProperty) (header : List ℕ) (f g : List NameAndRaw) → AreFields ps header f → AreFields ps header g → f ≡ g
one_fields ps header f g p q = (one_header f g p.end q.end _ p.is_header q.is_header).0

-- an Email has at most one object
pub one_email_object : (row : EmailRow) (octets : Option (List ℕ)) (asked : EmailAsked) (x y : Data) → IsEmailObject row octets asked x → IsEmailObject row octets asked y → x ≡ y
one_email_object row octets asked x y g h =
    let ps = Id ∷ without_body asked.properties in
    let m = option_map (row_message row) octets in
    let same = one_fields asked.properties row.header g.fields h.fields g.are_fields h.are_fields in
    one_object (row_facts row h.fields) ps m asked x y (subst (λ (fs : List NameAndRaw). IsObject (row_facts row fs) ps m asked x) same g.is_object) h.is_object

-- so have octets that are no Email
pub one_parsed_object : (blob_id : Option (List ℕ)) (m : MessageData) (asked : EmailAsked) (x y : Data) → IsParsedObject blob_id m asked x
    → IsParsedObject blob_id m asked y → x ≡ y
one_parsed_object blob_id m asked x y g h =
    let ps = without_body asked.properties in
    let same = one_fields asked.properties m.octets g.fields h.fields g.are_fields h.are_fields in
    one_object (message_facts blob_id m h.fields) ps (Some m) asked x y
    (subst (λ (fs : List NameAndRaw). IsObject (message_facts blob_id m fs) ps (Some m) asked x) same g.is_object) h.is_object
