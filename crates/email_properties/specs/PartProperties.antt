-- The properties of an EmailBodyPart (RFC 8621 section 4.1.4) and their names.
use Rattle.std.specs.Prelude.{ℕ, List, [], ◌∷◌, bytes_eq, codes, Option, option_map}
use Rattle.std.specs.List.{find}
use Rattle.std.specs.Option.{option_or}
use Rattle.email_properties.specs.HeaderProperties.{header_in}
use Rattle.email_properties.specs.declared.part_property.PartProperty.{PartProperty}
use Rattle.email_properties.specs.declared.part_property.PartProperty.TheVariants.{PartId, BlobId, Size, Name, Charset, Disposition, Cid, Language, Location}
use Rattle.email_properties.specs.declared.part_property.PartProperty.TheVariants.{SubParts, Headers, Header}
use Rattle.email_properties.specs.declared.part_property.PartProperty.TheVariants as property

-- its key in an object
abbrev pub part_key : PartProperty → List ℕ
part_key PartId = codes "partId"
part_key BlobId = codes "blobId"
part_key Size = codes "size"
part_key Name = codes "name"
part_key property.Type = codes "type"
part_key Charset = codes "charset"
part_key Disposition = codes "disposition"
part_key Cid = codes "cid"
part_key Language = codes "language"
part_key Location = codes "location"
part_key SubParts = codes "subParts"
part_key Headers = codes "headers"
part_key (Header h) = h.key

-- what is asked where no properties are named (sections 4.2 and 4.9)
abbrev pub part_defaults : List PartProperty
part_defaults = PartId ∷ BlobId ∷ Size ∷ Name ∷ property.Type ∷ Charset ∷ Disposition ∷ Cid ∷ Language ∷ Location ∷ []

-- those that have a name of their own
abbrev pub part_properties : List PartProperty
part_properties =
    PartId ∷ BlobId ∷ Size ∷ Name ∷ property.Type ∷ Charset ∷ Disposition ∷ Cid ∷ Language ∷ Location ∷ SubParts ∷ Headers ∷ []

abbrev pub named_part_property : List ℕ → Option PartProperty
named_part_property key = find (λ p. bytes_eq key (part_key p)) part_properties

-- the property that a text asks
abbrev pub part_property_in : List ℕ → Option PartProperty
part_property_in key = option_or (named_part_property key) (option_map Header (header_in key))
