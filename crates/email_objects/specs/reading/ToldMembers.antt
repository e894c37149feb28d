-- The members of an object for which the body isn't needed.
use Rattle.std.specs.Prelude.{ℕ, List, ◌∷◌, Option}
use Rattle.serde_json.specs.Data.{Members, no_members}
use Rattle.mail_header.specs.Fields.{NameAndRaw}
use Rattle.mail_maps.specs.declared.row.EmailRow.{EmailRow}
use Rattle.email_properties.specs.declared.email_property.EmailProperty.{EmailProperty}
use Rattle.email_properties.specs.declared.email_property.EmailProperty.TheVariants.{Id}
use Rattle.body_parts.specs.Messages.{MessageData}
use Rattle.email_objects.specs.EmailObjects.{AreFields, without_body}
use Rattle.email_objects.specs.Facts.{row_facts, message_facts}
use Rattle.email_objects.specs.Properties.{PutsEmailProperties}

-- of an Email: the id, and those of these properties for which the body isn't needed
pub record TellsRow (row : EmailRow) (properties : List EmailProperty) (members : Members) : Type 0 where
  pub fields : List NameAndRaw
  pub are_fields : AreFields properties row.header fields
  pub are_told : PutsEmailProperties (row_facts row fields) (Id ∷ without_body properties) no_members members

-- of octets that are no Email: those of these properties for which the body isn't needed
pub record TellsMessage (blob_id : Option (List ℕ)) (m : MessageData) (properties : List EmailProperty) (members : Members) : Type 0 where
  pub fields : List NameAndRaw
  pub are_fields : AreFields properties m.octets fields
  pub are_told : PutsEmailProperties (message_facts blob_id m fields) (without_body properties) no_members members
