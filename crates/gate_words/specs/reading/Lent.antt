-- What lent values are.
use Rattle.std.specs.Prelude.{◌≡◌, ℕ, List, [], ◌∷◌}
use Rattle.gate_words.specs.Options.{Setting}
use Rattle.gate_words.specs.reading.Words.{WordKind, Waits, Sets}
use Rattle.gate_words.specs.declared.option.LentSetting.{LentSetting}
use Rattle.gate_words.specs.declared.settings.WordKind.TheVariants as kind
use Rattle.gate_words.specs.declared.settings.WordKind.{WordKind as LentWordKind}
use Rattle.gate_words.specs.declared.settings.GivenValues.{GivenValues}
use Rattle.gate_words.specs.declared.settings.GivenValues.TheVariants.{Absent, Single, Several}
use Rattle.gate_words.specs.declared.place.LentPlace.{LentPlace}
use Rattle.gate_words.specs.declared.place.Place.{Place}

abbrev pub setting_in : LentSetting → Setting
setting_in setting = record { name = setting.name; value = setting.value.now }

abbrev pub kind_in : LentWordKind → WordKind
kind_in (kind.Name name) = Waits name
kind_in (kind.Setting setting) = Sets (setting_in setting)

-- the values are none, one, or more
abbrev pub IsGiven : GivenValues → List (List ℕ) → Type 0
IsGiven Absent values = values ≡ []
IsGiven (Single value) values = values ≡ value.now ∷ []
IsGiven Several values = (first : List ℕ) × (second : List ℕ) × (more : List (List ℕ)) × (values ≡ first ∷ second ∷ more)

abbrev pub place_in : LentPlace → Place
place_in place = record { store = place.store.now; user = place.user.now; base = place.base.now }
