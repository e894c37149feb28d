-- Headers of parts, which are read where a property asks them.
use Rattle.std.specs.Prelude.{◌≡◌, ℕ, Bool, true, false, List}
use Rattle.std.specs.List.{list_any}
use Rattle.mail_header.specs.Fields.{NameAndRaw}
use Rattle.email_properties.specs.declared.part_property.PartProperty.{PartProperty}
use Rattle.email_properties.specs.declared.part_property.PartProperty.TheVariants.{Headers, Header}
use Rattle.mime_tree.specs.declared.part.Part.{Part}
use Rattle.body_parts.specs.PartObjects.{HasHeader}

-- whether the header is needed for the property
abbrev pub is_of_header : PartProperty → Bool
is_of_header Headers = true
is_of_header (Header asked) = true
is_of_header asked = false

-- a field by its name
abbrev pub is_named : PartProperty → Bool
is_named (Header asked) = true
is_named asked = false

abbrev pub needs_header : List PartProperty → Bool
needs_header asked = list_any is_of_header asked

-- where the header is needed, these are the fields of the part's own
abbrev pub HasHeaderIf : Bool → List ℕ → Part → List NameAndRaw → Type 0
HasHeaderIf needed b p fields = needed ≡ true → HasHeader b p fields
