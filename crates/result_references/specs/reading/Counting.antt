-- Octets of texts as they are counted, for private clauses.
use Rattle.std.specs.Prelude.{◌≡◌, ℕ, suc, ◌+◌, ◌<◌, ◌≤◌, ◌⊎◌, max, List, [], ◌∷◌, length, codes, if◌then◌else◌, bytes_eq, Option, Some, None, MatchOption, option_and_then, is_some, ◌&&◌, Bool, true, Result, Ok, Err}
use Rattle.std.specs.Option.{option_map_or}
use Rattle.json.specs.Print.{quoted}
use Rattle.serde_json.specs.Data.{Data, null, boolean, number, string, array, object, Items, no_items, item, Members, no_members, member}
use Rattle.serde_json.specs.Find.{pointer, as_array}
use Rattle.serde_json.specs.Written.{compact_text}
use Rattle.result_references.specs.Call.{CallData}
use Rattle.result_references.specs.References.{Source, referring, source_of, value_at, resolved_object}
use Rattle.jmap_arguments.specs.declared.method_error.MethodError.{MethodError}
use Rattle.jmap_arguments.specs.declared.method_error.MethodError.TheVariants.{Memory}
use Rattle.result_references.specs.declared.counted_octets.TheConstants.{MAX_RESOLVED_OCTETS}

-- The count is the total, or nothing exactly where that is above the limit.
abbrev pub Counts : Option ℕ → ℕ → Type 0
Counts counted total = MatchOption counted (MAX_RESOLVED_OCTETS < total) (λ n. (n ≡ total) × (n ≤ MAX_RESOLVED_OCTETS))

-- the texts of items, each with a comma
abbrev pub item_octets : Items → ℕ
item_octets no_items = 0
item_octets (item d ds) = suc (length (compact_text d) + item_octets ds)

-- the texts of members, each with a colon and a comma
abbrev pub member_octets : Members → ℕ
member_octets no_members = 0
member_octets (member k d ms) = 2 + length (quoted k) + length (compact_text d) + member_octets ms

-- a value with a comma; of an array its items
abbrev pub joined_octets : Data → ℕ
joined_octets null = suc (length (compact_text null))
joined_octets (boolean b) = suc (length (compact_text (boolean b)))
joined_octets (number n) = suc (length (compact_text (number n)))
joined_octets (string s) = suc (length (compact_text (string s)))
joined_octets (array ds) = item_octets ds
joined_octets (object ms) = suc (length (compact_text (object ms)))

abbrev pub joined_in : (Data → ℕ) → Items → ℕ
joined_in f no_items = 0
joined_in f (item d ds) = f d + joined_in f ds

abbrev pub joined_by : List ℕ → (Data → ℕ) → Data → Option Items → ℕ
joined_by segment rest d None = option_map_or rest (pointer segment d) 0
joined_by segment rest d (Some items) = if bytes_eq segment (codes "/*") then joined_in rest items else option_map_or rest (pointer segment d) 0

-- what stands at the segments, joined
abbrev pub joined_at : List (List ℕ) → Data → ℕ
joined_at [] d = joined_octets d
joined_at (segment ∷ segments) d = joined_by segment (joined_at segments) d (as_array d)

abbrev pub octets_by : List ℕ → (Data → ℕ) → (Data → ℕ) → Data → Option Items → ℕ
octets_by segment rest each d None = option_map_or rest (pointer segment d) 0
octets_by segment rest each d (Some items) = if bytes_eq segment (codes "/*") then suc (max 1 (joined_in each items)) else option_map_or rest (pointer segment d) 0

-- the text of what stands at the segments
abbrev pub octets_at : List (List ℕ) → Data → ℕ
octets_at [] d = length (compact_text d)
octets_at (segment ∷ segments) d = octets_by segment (octets_at segments) (joined_at segments) d (as_array d)

-- ---- members

abbrev pub stands_for : List CallData → Data → Option (List ℕ) → Bool
stands_for earlier d None = true
stands_for earlier d (Some name) = is_some (option_and_then value_at (source_of earlier d))

-- something stands where each reference looks
abbrev pub all_stand : List CallData → Members → Bool
all_stand earlier no_members = true
all_stand earlier (member key d ms) = stands_for earlier d (referring key) && all_stand earlier ms

abbrev pub source_octets : Option Source → ℕ
source_octets source = option_map_or (λ s. octets_at s.segments s.arguments) source 0

-- the text of a member, resolved, with a colon and a comma
abbrev pub octets_for : List CallData → List ℕ → Data → Option (List ℕ) → ℕ
octets_for earlier key d None = 2 + length (quoted key) + length (compact_text d)
octets_for earlier key d (Some name) = 2 + length (quoted name) + source_octets (source_of earlier d)

abbrev pub resolved_octets : List CallData → Members → ℕ
resolved_octets earlier no_members = 0
resolved_octets earlier (member key d ms) = octets_for earlier key d (referring key) + resolved_octets earlier ms

-- What is due is the resolved arguments, or the error; only want of memory is free.
abbrev pub Passes : Result (Unit {0}) MethodError → Result Data MethodError → Option Members → Type 0
Passes (Ok u) due found = due ≡ resolved_object found
Passes (Err e) due found = (e ≡ Memory) ⊎ (due ≡ Err e)
