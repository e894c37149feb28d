-- Octets as texts of JSON.
use Rattle.std.specs.Prelude.{ℕ, List, map, Option, Some, None}
use Rattle.std.specs.Str.Lossy.{utf8_lossy}
use Rattle.serde_json.specs.Data.{Data, null, string, array}
use Rattle.serde_json.specs.View.{items_of}

-- octets as a text: what isn't UTF-8 is U+FFFD
abbrev pub text_data : List ℕ → Data
text_data octets = string (utf8_lossy octets)

-- null where there is none
abbrev pub optional_text : Option (List ℕ) → Data
optional_text None = null
optional_text (Some octets) = text_data octets

-- texts in a list
abbrev pub text_list : List (List ℕ) → Data
text_list texts = array (items_of (map text_data texts))
