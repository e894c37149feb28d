-- The properties of an Email that its body gives (RFC 8621 section 4.1.4).
use Rattle.std.specs.Prelude.{◌≡◌, ℕ, List, [], ◌∷◌}
use Rattle.std.specs.List.{filter}
use Rattle.serde_json.specs.Data.{Data, boolean, array, object, Members, put}
use Rattle.serde_json.specs.View.{items_of}
use Rattle.email_properties.specs.EmailProperties.{email_key, is_of_body}
use Rattle.email_properties.specs.Wanted.{BodyAsked, EmailAsked}
use Rattle.email_properties.specs.declared.email_property.EmailProperty.{EmailProperty}
use Rattle.email_properties.specs.declared.email_property.EmailProperty.TheVariants as property
use Rattle.email_properties.specs.declared.part_property.PartProperty.{PartProperty}
use Rattle.mime_tree.specs.declared.lists.BodyLists.{BodyLists}
use Rattle.mime_tree.specs.declared.part.Part.{Part}
use Rattle.mime_tree.specs.BodyLists.{AreBodyLists}
use Rattle.mime_tree.specs.Trees.{IsMessage}
use Rattle.json_texts.specs.Texts.{text_data}
use Rattle.body_parts.specs.BodyValues.{AreValues}
use Rattle.body_parts.specs.Leaves.{AreLeaves}
use Rattle.body_parts.specs.Messages.{MessageData}
use Rattle.body_parts.specs.PartObjects.{AreObjects}
use Rattle.body_parts.specs.Previews.{IsPreview}
use Rattle.body_parts.specs.Steps.{InTurn}

-- a list of the objects of these parts
abbrev pub IsPartListData : MessageData → List PartProperty → List Part → Data → Type 0
IsPartListData m asked ps d = (objects : List Data) × AreObjects m asked ps objects × (d ≡ array (items_of objects))

abbrev pub IsPreviewData : List ℕ → List Part → Data → Type 0
IsPreviewData b ps d = (preview : List ℕ) × IsPreview b ps preview × (d ≡ text_data preview)

abbrev pub AreValuesData : BodyAsked → BodyLists → List ℕ → List Part → Data → Type 0
AreValuesData asked lists b leaves d = (values : Members) × AreValues asked lists b leaves values × (d ≡ object values)

-- the octets as a message: the tree of its parts, the leaves of the tree, and the body lists
pub record Reading (b : List ℕ) : Type 0 where
  pub root : Part
  pub is_message : IsMessage b root
  pub leaves : List Part
  pub are_leaves : AreLeaves (root ∷ []) leaves
  pub lists : BodyLists
  pub are_lists : AreBodyLists lists root

-- the data of a property of the body; another property of an Email has none
abbrev pub IsDataOf : (m : MessageData) → BodyAsked → Reading m.octets → EmailProperty → Data → Type 0
IsDataOf m asked read property.BodyStructure d = AreObjects m asked.parts (read.root ∷ []) (d ∷ [])
IsDataOf m asked read property.BodyValues d = AreValuesData asked read.lists m.octets read.leaves d
IsDataOf m asked read property.TextBody d = IsPartListData m asked.parts read.are_lists.parts.text d
IsDataOf m asked read property.HtmlBody d = IsPartListData m asked.parts read.are_lists.parts.html d
IsDataOf m asked read property.Attachments d = IsPartListData m asked.parts read.are_lists.parts.attachments d
IsDataOf m asked read property.HasAttachment d = d ≡ boolean read.lists.has_attachment
IsDataOf m asked read property.Preview d = IsPreviewData m.octets read.are_lists.parts.text d
IsDataOf m asked read _ d = ⊥

abbrev pub IsBodyProperty : MessageData → BodyAsked → EmailProperty → Data → Type 0
IsBodyProperty m asked p d = (read : Reading m.octets) × IsDataOf m asked read p d

-- ---- the properties that are asked, each put at its key

abbrev pub PutsBodyProperty : MessageData → BodyAsked → EmailProperty → Members → Members → Type 0
PutsBodyProperty m asked p before after = (d : Data) × IsBodyProperty m asked p d × (after ≡ put (email_key p) d before)

-- those of the body among the properties that are asked, in the order asked
abbrev pub AddsBodyProperties : MessageData → EmailAsked → Members → Members → Type 0
AddsBodyProperties m asked before after = InTurn (PutsBodyProperty m asked.body) (filter is_of_body asked.properties) before after
