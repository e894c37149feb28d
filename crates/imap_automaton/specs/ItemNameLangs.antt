-- What each symbol of another item's name still reads, in the words of the grammar.
use Rattle.std.specs.Prelude.{◌≡◌, ◌⊎◌, ℕ, ◌<◌, List, [], ◌∷◌, ◌++◌, length}
use Rattle.imap_automaton.specs.declared.sym.ItemName.{ItemName}
use Rattle.imap_automaton.specs.declared.sym.ItemName.TheVariants as name
use Rattle.imap_types.specs.Octets.{is_digit}
use Rattle.imap_types.specs.Texts.{Each, Then}
use Rattle.imap_types.specs.Values.{AllOf, IsValue}
use Rattle.imap_types.specs.ItemNames.{is_plain, IsUnit, concat, IsPartial, IsSection}

-- the rest of a section, and what may follow it
pub record SectionRest (t : List ℕ) : Type 0 where
  pub units : List (List ℕ)
  pub rest : List ℕ
  pub whole : t ≡ concat units ++ 93 ∷ rest
  pub units_are : AllOf IsUnit units
  pub rest_is : IsPartial rest

-- the rest of a name
abbrev pub NameForm : ItemName → List ℕ → Type 0
NameForm name.Plain t = Each is_plain t ⊎ Then (Each is_plain) IsSection t
NameForm name.Section t = SectionRest t
NameForm name.After t = IsPartial t
NameForm name.Part t = (digits : List ℕ) × (t ≡ digits ++ 62 ∷ []) × Each is_digit digits × (0 < length digits)
NameForm name.Digits t = (digits : List ℕ) × (t ≡ digits ++ 62 ∷ []) × Each is_digit digits
NameForm name.End t = t ≡ []

-- the rest of a name, a space and a value
pub record NameRest (s : ItemName) (t : List ℕ) : Type 0 where
  pub rest : List ℕ
  pub value : List ℕ
  pub whole : t ≡ rest ++ 32 ∷ value
  pub form : NameForm s rest
  pub value_is : IsValue 64 value
