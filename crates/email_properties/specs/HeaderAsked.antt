-- What a property `header:{name}` asks (RFC 8621 section 4.1.3).
use Rattle.std.specs.Prelude.{ℕ, Bool, List}
use Rattle.email_properties.specs.declared.header_form.HeaderForm.{HeaderForm}

-- the whole property as asked, the field's name in it, the form of the value, and whether each field of the name is asked
pub record HeaderAsked : Type 0 where
  pub key : List ℕ
  pub name : List ℕ
  pub form : HeaderForm
  pub all : Bool
