-- Properties for which an index of the fields is made.
use Rattle.std.specs.Prelude.{Bool, true, false}
use Rattle.email_properties.specs.declared.email_property.EmailProperty.{EmailProperty}
use Rattle.email_properties.specs.declared.email_property.EmailProperty.TheVariants as property

-- a field by its name
abbrev pub is_named : EmailProperty → Bool
is_named (property.Header asked) = true
is_named _ = false
