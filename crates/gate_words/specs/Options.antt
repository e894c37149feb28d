-- How words give options their values.
use Rattle.std.specs.Prelude.{◌≡◌, ◌⊎◌, ℕ, List, [], ◌∷◌, ◌++◌, codes}
use Rattle.gate_words.specs.declared.option.Name.{Name}
use Rattle.gate_words.specs.declared.option.Name.TheVariants.{Store, User, Base, Listen, Connections}

-- an option as it is written
abbrev pub name_text : Name → List ℕ
name_text Store = codes "--store"
name_text User = codes "--user"
name_text Base = codes "--base"
name_text Listen = codes "--listen"
name_text Connections = codes "--connections"

-- an option and a value that it is given
pub record Setting : Type 0 where
  pub name : Name
  pub value : List ℕ

-- the two in one word
abbrev pub joined_text : Setting → List ℕ
joined_text setting = name_text setting.name ++ 61 ∷ setting.value

abbrev pub BeginsWithDash : List ℕ → Type 0
BeginsWithDash word = (rest : List ℕ) × (word ≡ 45 ∷ rest)

-- A setting is two words, of which the second doesn't begin with `-`, or one word with `=`.
abbrev pub SpellsWord : Setting → List (List ℕ) → Type 0
SpellsWord setting words = ((words ≡ name_text setting.name ∷ setting.value ∷ []) × ¬ BeginsWithDash setting.value) ⊎ (words ≡ joined_text setting ∷ [])

-- settings one after another
abbrev pub SpellsAll : List Setting → List (List ℕ) → Type 0
SpellsAll [] words = words ≡ []
SpellsAll (setting ∷ settings) words = (here : List (List ℕ)) × (rest : List (List ℕ)) × (words ≡ here ++ rest) × SpellsWord setting here
    × SpellsAll settings rest

-- a value before others, where the name is the one asked for
abbrev pub value_if : Name → Name → List ℕ → List (List ℕ) → List (List ℕ)
value_if Store Store value values = value ∷ values
value_if User User value values = value ∷ values
value_if Base Base value values = value ∷ values
value_if Listen Listen value values = value ∷ values
value_if Connections Connections value values = value ∷ values
value_if asked name value values = values

-- the values that an option is given, in order
abbrev pub values_of : Name → List Setting → List (List ℕ)
values_of asked [] = []
values_of asked (setting ∷ settings) = value_if asked setting.name setting.value (values_of asked settings)
