-- Messages that the code has read.
use Rattle.std.specs.Prelude.{◌≡◌, true, [], ◌∷◌}
use Rattle.serde_json.specs.Data.{Data}
use Rattle.email_properties.specs.EmailProperties.{is_of_body}
use Rattle.email_properties.specs.Wanted.{BodyAsked}
use Rattle.email_properties.specs.declared.email_property.EmailProperty.{EmailProperty}
use Rattle.mime_tree.specs.BodyLists.{AreBodyLists}
use Rattle.mime_tree.specs.Trees.{IsMessage}
use Rattle.body_parts.specs.declared.body_properties.Body.{Body}
use Rattle.body_parts.specs.BodyProperties.{IsBodyProperty}
use Rattle.body_parts.specs.Leaves.{AreLeaves}
use Rattle.body_parts.specs.Messages.{MessageData}
use Rattle.body_parts.specs.reading.LeafLists.{parts_of, IsAllWithin}

-- the message has this tree, which lies within its octets, and these leaves and body lists
pub record IsReadBody (body : Body) : Type 0 where
  pub is_message : IsMessage body.message.now.octets.now body.root.now
  pub within : IsAllWithin body.message.now.octets.now body.root.now
  pub are_leaves : AreLeaves (body.root.now ∷ []) (parts_of body.leaves.now)
  pub are_lists : AreBodyLists body.lists.now body.root.now

-- the data of a property, which is one of the body
abbrev pub IsOfBody : MessageData → BodyAsked → EmailProperty → Data → Type 0
IsOfBody m asked p d = (is_of_body p ≡ true) × IsBodyProperty m asked p d
