-- What is asked of each Email (RFC 8621 sections 4.2 and 4.9).
use Rattle.std.specs.Prelude.{ℕ, Bool, List, codes, Option, Result, Ok, Err}
use Rattle.std.specs.List.{list_any}
use Rattle.serde_json.specs.Data.{Data}
use Rattle.jmap_arguments.specs.Arguments.{texts_at}
use Rattle.jmap_arguments.specs.declared.method_error.MethodError.{MethodError}
use Rattle.email_properties.specs.EmailProperties.{email_property_in, email_get_defaults, email_parse_defaults, is_of_body}
use Rattle.email_properties.specs.PartProperties.{part_property_in, part_defaults}
use Rattle.email_properties.specs.Properties.{those_asked}
use Rattle.email_properties.specs.Kinds.{texts_given, flag_at, natural_at}
use Rattle.email_properties.specs.declared.email_property.EmailProperty.{EmailProperty}
use Rattle.email_properties.specs.declared.part_property.PartProperty.{PartProperty}
use Rattle.email_properties.specs.declared.defaults.Defaults.{Defaults}
use Rattle.email_properties.specs.declared.defaults.Defaults.TheVariants.{Get, Parse}
use Rattle.email_properties.specs.declared.wanted.BodyWanted.{BodyWanted}
use Rattle.email_properties.specs.declared.wanted.EmailWanted.{EmailWanted}

-- of the body: the properties of its parts, whose values are fetched, and the most octets of one, where 0 is no bound
pub record BodyAsked : Type 0 where
  pub parts : List PartProperty
  pub text_values : Bool
  pub html_values : Bool
  pub all_values : Bool
  pub max_octets : ℕ

pub record EmailAsked : Type 0 where
  pub properties : List EmailProperty
  pub body : BodyAsked

-- what the code's values stand for
abbrev pub body_asked : BodyWanted → BodyAsked
body_asked b = record {
  parts = b.parts.items;
  text_values = b.text_values;
  html_values = b.html_values;
  all_values = b.all_values;
  max_octets = b.max_octets;
}

abbrev pub email_asked : EmailWanted → EmailAsked
email_asked w = record { properties = w.properties.items; body = body_asked w.body }

-- whether the body of the message is needed
abbrev pub needs_body : EmailAsked → Bool
needs_body asked = list_any is_of_body asked.properties

-- ---- what the arguments ask; a refusal is InvalidArguments

-- the names of the properties: an Email/get may have null for the defaults, an Email/parse may not
abbrev pub names_in : Defaults → Data → Result (Option (List (List ℕ))) MethodError
names_in Get d = texts_at (codes "properties") d
names_in Parse d = texts_given (codes "properties") d

abbrev pub email_defaults : Defaults → List EmailProperty
email_defaults Get = email_get_defaults
email_defaults Parse = email_parse_defaults

abbrev pub properties_in : Defaults → Data → Result (List EmailProperty) MethodError
properties_in defaults d = those_asked email_property_in (email_defaults defaults) (names_in defaults d)

abbrev pub parts_in : Data → Result (List PartProperty) MethodError
parts_in d = those_asked part_property_in part_defaults (texts_given (codes "bodyProperties") d)

abbrev pub body_from : Result (List PartProperty) MethodError → Result Bool MethodError → Result Bool MethodError → Result Bool MethodError
    → Result ℕ MethodError → Result BodyAsked MethodError
body_from (Ok parts) (Ok text) (Ok html) (Ok all) (Ok most) =
    Ok (record { parts = parts; text_values = text; html_values = html; all_values = all; max_octets = most })
body_from (Ok parts) (Ok text) (Ok html) (Ok all) (Err e) = Err e
body_from (Ok parts) (Ok text) (Ok html) (Err e) most = Err e
body_from (Ok parts) (Ok text) (Err e) all most = Err e
body_from (Ok parts) (Err e) html all most = Err e
body_from (Err e) text html all most = Err e

abbrev pub body_in : Data → Result BodyAsked MethodError
body_in d =
    body_from (parts_in d) (flag_at (codes "fetchTextBodyValues") d) (flag_at (codes "fetchHTMLBodyValues") d)
    (flag_at (codes "fetchAllBodyValues") d) (natural_at (codes "maxBodyValueBytes") d)

abbrev pub email_from : Result (List EmailProperty) MethodError → Result BodyAsked MethodError → Result EmailAsked MethodError
email_from (Ok properties) (Ok body) = Ok (record { properties = properties; body = body })
email_from (Ok properties) (Err e) = Err e
email_from (Err e) body = Err e

abbrev pub email_wanted_in : Defaults → Data → Result EmailAsked MethodError
email_wanted_in defaults d = email_from (properties_in defaults d) (body_in d)
