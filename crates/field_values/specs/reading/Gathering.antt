-- What a loop over fields has gathered.
use Rattle.std.specs.Prelude.{ℕ, List, [], ◌∷◌, Option, Some, None, slice_get, unwrap_or}
use Rattle.std.specs.Option.{option_and_then}
use Rattle.mail_header.specs.Fields.{NameAndRaw}
use Rattle.field_values.specs.HeaderProperties.{raw_named}

-- the raw value of the field at this place, where it has this name
abbrev pub raw_at : List ℕ → List NameAndRaw → ℕ → Option (List ℕ)
raw_at name fields at = option_and_then (raw_named name) (slice_get fields at)

-- the last of these raw values
abbrev pub last_raw : List (List ℕ) → Option (List ℕ)
last_raw [] = None
last_raw (r ∷ rs) = Some (unwrap_or (last_raw rs) r)
