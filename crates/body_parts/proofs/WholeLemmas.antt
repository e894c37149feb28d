-- No number in a property of the body has a fraction.
use Rattle.std.proofs.Common.{◌≡◌, ◌∙◌, ℕ, Bool, true, false, ◌||◌, List, [], ◌∷◌, refl, ap, Option, Some, None}
use Rattle.std.specs.Prelude.{codes, decimal}
use Rattle.std.specs.List.{filter}
use Rattle.serde_json.specs.Data.{Data, array, Members, no_members}
use Rattle.serde_json.specs.View.{items_of}
use Rattle.serde_json.specs.Written.{has_float, items_have_float, members_have_float}
use Rattle.json_texts.specs.Texts.{text_data}
use Rattle.json_texts.proofs.WholeLemmas.{items_whole, put_whole, text_whole}
use Rattle.email_properties.specs.EmailProperties.{email_key, is_of_body}
use Rattle.email_properties.specs.PartProperties.{part_key}
use Rattle.email_properties.specs.Wanted.{BodyAsked, EmailAsked}
use Rattle.email_properties.specs.declared.email_property.EmailProperty.{EmailProperty}
use Rattle.email_properties.specs.declared.email_property.EmailProperty.TheVariants as email
use Rattle.email_properties.specs.declared.part_property.PartProperty.{PartProperty}
use Rattle.email_properties.specs.declared.part_property.PartProperty.TheVariants as property
use Rattle.field_values.proofs.PropertyLemmas.{headers_whole, property_whole}
use Rattle.mime_tree.specs.declared.part.Part.{Part, out-Part}
use Rattle.mime_tree.specs.Parts.{part_number}
use Rattle.mime_tree.specs.Roles.{leaf_number}
use Rattle.body_parts.specs.BodyProperties.{AddsBodyProperties, IsBodyProperty, IsDataOf, PutsBodyProperty, Reading}
use Rattle.body_parts.specs.BodyValues.{has_value, PutsValue}
use Rattle.body_parts.specs.Languages.{IsLanguage, tags}
use Rattle.body_parts.specs.Messages.{MessageData}
use Rattle.body_parts.specs.PartObjects as objects
use Rattle.body_parts.specs.PartObjects.{AreObjects, IsPropertyData, PutsProperty}
use Rattle.body_parts.proofs.StepLemmas.{turn_whole}

-- ---- objects of parts

language_whole : (o : Option (List ℕ)) (d : Data) → IsLanguage o d → has_float d ≡ false
language_whole None d h = ap has_float h
language_whole (Some text) d h = ap has_float h.2 ∙ items_whole text_data (tags h.0) (λ t. refl)

id_whole : (n : Option ℕ) → has_float (objects.part_id n) ≡ false
id_whole None = refl
id_whole (Some n) = refl

blob_id_whole : (id : Option (List ℕ)) (n : Option ℕ) → has_float (objects.part_blob_id id n) ≡ false
blob_id_whole None n = refl
blob_id_whole (Some id) None = refl
blob_id_whole (Some id) (Some n) = refl

own_whole : (m : MessageData) (p : Part) (a : PartProperty) (d : Data) → IsPropertyData m p a d → has_float d ≡ false
own_whole m p property.PartId d h = ap has_float h ∙ id_whole (part_number p)
own_whole m p property.BlobId d h = ap has_float h ∙ blob_id_whole m.id (part_number p)
own_whole m p property.Size d h = ap has_float h.2
own_whole m p property.Name d h = ap has_float h ∙ text_whole (out-Part p).name
own_whole m p property.Type d h = ap has_float h
own_whole m p property.Charset d h = ap has_float h ∙ text_whole (out-Part p).charset
own_whole m p property.Disposition d h = ap has_float h ∙ text_whole (out-Part p).disposition
own_whole m p property.Cid d h = ap has_float h ∙ text_whole (out-Part p).cid
own_whole m p property.Language d h = language_whole (out-Part p).language d h
own_whole m p property.Location d h = ap has_float h ∙ text_whole (out-Part p).location
own_whole m p property.SubParts d h = ap has_float h
own_whole m p property.Headers d h = ap has_float h.2 ∙ headers_whole h.0
own_whole m p (property.Header asked) d h = property_whole asked h.0 d h.2

puts_whole : (m : MessageData) (p : Part) (a : PartProperty) (before after : Members) → PutsProperty m p a before after → members_have_float before ≡ false
    → members_have_float after ≡ false
puts_whole m p a before after h g = ap members_have_float h.2 ∙ put_whole (part_key a) h.0 before (own_whole m p a h.0 h.1) g

members_whole : (m : MessageData) (asked : List PartProperty) (p : Part) (own : objects.OwnMembers m asked p) → members_have_float own.members ≡ false
members_whole m asked p own = turn_whole (PutsProperty m p) (puts_whole m p) asked no_members own.members own.are refl

objects_whole : (m : MessageData) (asked : List PartProperty) (ps : List Part) (ds : List Data) → AreObjects m asked ps ds → items_have_float (items_of ds) ≡ false
objects_whole m asked _ _ objects.End = refl
objects_whole m asked _ _ (objects.Leaf p ps behind own leaf rest) =
    ap (λ (t : Bool). t || items_have_float (items_of behind)) (members_whole m asked p own) ∙ objects_whole m asked ps behind rest
objects_whole m asked _ _ (objects.Multi p ps behind x kids rest) =
    ap (λ (t : Bool). t || items_have_float (items_of behind))
    (put_whole (codes "subParts") (array (items_of x.inner)) x.own.members (objects_whole m asked _ x.inner kids) (members_whole m asked p x.own))
    ∙ objects_whole m asked ps behind rest

first_whole : (d : Data) → items_have_float (items_of (d ∷ [])) ≡ false → has_float d ≡ false
first_whole d h = by (has_float d) h
  where
    by : (t : Bool) → (t || false) ≡ false → t ≡ false
    by true e = e
    by false e = refl

-- ---- values

value_whole : (most : ℕ) (b : List ℕ) (p : Part) (before after : Members) → PutsValue most b p before after → members_have_float before ≡ false → members_have_float after ≡ false
value_whole most b p before after h g = ap members_have_float h.is ∙ put_whole (decimal (leaf_number p)) h.value before (ap has_float h.is_value.is) g

-- ---- properties

data_whole : (m : MessageData) (asked : BodyAsked) (read : Reading m.octets) (p : EmailProperty) (d : Data) → IsDataOf m asked read p d → has_float d ≡ false
data_whole m asked read email.BodyStructure d h = first_whole d (objects_whole m asked.parts (read.root ∷ []) (d ∷ []) h)
data_whole m asked read email.BodyValues d h =
    ap has_float h.2
    ∙ turn_whole (PutsValue asked.max_octets m.octets) (value_whole asked.max_octets m.octets) (filter (has_value asked read.lists) read.leaves) no_members h.0 h.1 refl
data_whole m asked read email.TextBody d h = ap has_float h.2 ∙ objects_whole m asked.parts _ h.0 h.1
data_whole m asked read email.HtmlBody d h = ap has_float h.2 ∙ objects_whole m asked.parts _ h.0 h.1
data_whole m asked read email.Attachments d h = ap has_float h.2 ∙ objects_whole m asked.parts _ h.0 h.1
data_whole m asked read email.HasAttachment d h = ap has_float h
data_whole m asked read email.Preview d h = ap has_float h.2
data_whole m asked read _ d h = absurd h

-- a property of the body has no fraction
pub body_whole : (m : MessageData) (asked : BodyAsked) (p : EmailProperty) (d : Data) → IsBodyProperty m asked p d → has_float d ≡ false
body_whole m asked p d h = data_whole m asked h.0 p d h.1

body_puts_whole : (m : MessageData) (asked : BodyAsked) (p : EmailProperty) (before after : Members) → PutsBodyProperty m asked p before after → members_have_float before ≡ false
    → members_have_float after ≡ false
body_puts_whole m asked p before after h g = ap members_have_float h.2 ∙ put_whole (email_key p) h.0 before (body_whole m asked p h.0 h.1) g

-- and the asked ones bring none in
pub bodies_whole : (m : MessageData) (asked : EmailAsked) (before after : Members) → AddsBodyProperties m asked before after → members_have_float before ≡ false
    → members_have_float after ≡ false
bodies_whole m asked before after h g =
    turn_whole (PutsBodyProperty m asked.body) (body_puts_whole m asked.body) (filter is_of_body asked.properties) before after h g
