-- Values of JSON by what they stand for, or None where they are of another type (RFC 8621 section 4).
use Rattle.std.specs.Prelude.{ℕ, Bool, true, false, ◌&&◌, List, [], ◌∷◌, Option, Some, None, option_map, option_and_then, is_some, if◌then◌else◌}
use Rattle.serde_json.specs.Data.{Data, null, boolean, Items, no_items, item, Members, no_members, member}
use Rattle.serde_json.specs.Find.{as_str, as_array, as_object}
use Rattle.jmap_values.specs.Dates.{moment_in, utc_seconds_in}
use Rattle.header_dates.specs.declared.date.Moment.{Moment}
use Rattle.mail_drafts.specs.Identifiers.{is_identifier}
use Rattle.mail_drafts.specs.Lines.{is_line}

-- ---- texts

-- a text that passes a test
abbrev pub tested : (List ℕ → Bool) → Option (List ℕ) → Option (List ℕ)
tested p None = None
tested p (Some t) = if p t then Some t else None

-- an id of a message or of a part
abbrev pub id_in : Data → Option (List ℕ)
id_in d = tested is_identifier (as_str d)

-- a text without control characters
abbrev pub line_in : Data → Option (List ℕ)
line_in d = tested is_line (as_str d)

-- a Date (RFC 8620 section 1.4)
abbrev pub date_in : Data → Option Moment
date_in d = option_and_then moment_in (as_str d)

-- a UTCDate
abbrev pub is_utc_date : Data → Bool
is_utc_date d = is_some (option_and_then utc_seconds_in (as_str d))

-- ---- values that may be missing

module _ {X : Type 0} where
  -- null says the same as that there is no value
  abbrev pub nullable : (Data → Option X) → Option Data → Option (Option X)
  nullable read None = Some None
  nullable read (Some null) = Some None
  nullable read (Some d) = option_map Some (read d)

-- ---- lists

module _ {X : Type 0} where
  abbrev pub each_in : (Data → Option X) → Items → Option (List X)
  each_in read no_items = Some []
  each_in read (item d ds) = option_and_then (λ x. option_map (λ xs. x ∷ xs) (each_in read ds)) (read d)

  -- a list of such values
  abbrev pub list_in : (Data → Option X) → Data → Option (List X)
  list_in read d = option_and_then (each_in read) (as_array d)

  -- an empty list says the same as none
  abbrev pub filled : Option (List X) → Option (List X)
  filled None = None
  filled (Some []) = None
  filled (Some (x ∷ xs)) = Some (x ∷ xs)

-- ---- objects

-- each member passes the test
abbrev pub each_member : (List ℕ → Data → Bool) → Members → Bool
each_member p no_members = true
each_member p (member k d ms) = p k d && each_member p ms

abbrev pub all_members : (List ℕ → Data → Bool) → Option Members → Bool
all_members p None = false
all_members p (Some ms) = each_member p ms

-- an object of which each member passes the test
abbrev pub is_object_of : (List ℕ → Data → Bool) → Data → Bool
is_object_of p d = all_members p (as_object d)

abbrev pub is_true : Data → Bool
is_true (boolean b) = b
is_true d = false

-- a set: each key passes the test, and its value is true
abbrev pub is_set_of : (List ℕ → Bool) → Data → Bool
is_set_of p d = is_object_of (λ k v. p k && is_true v) d
