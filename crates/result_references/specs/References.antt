-- Arguments in which references to earlier responses stand for values (RFC 8620 section 3.7).
use Rattle.std.specs.Prelude.{ℕ, suc, ◌+◌, List, [], ◌∷◌, map, length, Bool, true, false, ◌==◌, ◌&&◌, ◌||◌, nat_lt, if◌then◌else◌, bytes_eq, codes, is_some, is_none}
use Rattle.std.specs.Prelude.{Option, Some, None, option_map, option_and_then, Result, Ok, Err}
use Rattle.std.specs.Option.{option_map_or}
use Rattle.std.specs.List.{find, slice_split}
use Rattle.serde_json.specs.Data.{Data, null, boolean, number, string, array, object, Items, no_items, item, Members, no_members, member, put}
use Rattle.serde_json.specs.Find.{get, pointer, as_str, as_array, as_object}
use Rattle.serde_json.specs.Written.{compact_text}
use Rattle.result_references.specs.Call.{CallData}
use Rattle.jmap_arguments.specs.declared.method_error.MethodError.{MethodError}
use Rattle.jmap_arguments.specs.declared.method_error.MethodError.TheVariants.{InvalidArguments, InvalidResultReference, RequestTooLarge}
use Rattle.result_references.specs.declared.counted_octets.TheConstants.{MAX_RESOLVED_OCTETS}

-- ---- paths

-- the text after this first octet
abbrev pub after_first : ℕ → List ℕ → Option (List ℕ)
after_first octet [] = None
after_first octet (first ∷ rest) = if first == octet then Some rest else None

-- the segments of a JSON Pointer (RFC 6901 section 3), each a `/` and a token
abbrev pub segments_of : List ℕ → Option (List (List ℕ))
segments_of [] = Some []
segments_of (first ∷ rest) = option_map (λ tokens. map (λ token. 47 ∷ token) (slice_split (λ b. b == 47) tokens)) (after_first 47 (first ∷ rest))

abbrev pub items_append : Items → Items → Items
items_append no_items es = es
items_append (item d ds) es = item d (items_append ds es)

-- a value before further items; of an array its items (one level)
abbrev pub joined : Data → Items → Items
joined null rest = item null rest
joined (boolean b) rest = item (boolean b) rest
joined (number n) rest = item (number n) rest
joined (string s) rest = item (string s) rest
joined (array ds) rest = items_append ds rest
joined (object ms) rest = item (object ms) rest

-- what f gives of each item, joined
abbrev pub mapped : (Data → Option Data) → Items → Option Items
mapped f no_items = Some no_items
mapped f (item d ds) = option_and_then (λ e. option_map (joined e) (mapped f ds)) (f d)

-- `*` maps the rest of the path over an array; every other segment is a step of a JSON Pointer
abbrev pub step_by : List ℕ → (Data → Option Data) → Data → Option Items → Option Data
step_by segment rest d None = option_and_then rest (pointer segment d)
step_by segment rest d (Some items) = if bytes_eq segment (codes "/*") then option_map array (mapped rest items) else option_and_then rest (pointer segment d)

-- what stands at the segments
abbrev pub at_segments : List (List ℕ) → Data → Option Data
at_segments [] d = Some d
at_segments (segment ∷ segments) d = step_by segment (at_segments segments) d (as_array d)

abbrev pub octets_of_path : List (List ℕ) → ℕ
octets_of_path [] = 0
octets_of_path (segment ∷ segments) = length segment + octets_of_path segments

-- each item of an array, with the octets of the path behind the `*`, and in each what f says
abbrev pub walked_in : ℕ → (Data → ℕ) → Items → ℕ
walked_in behind f no_items = 0
walked_in behind f (item d ds) = suc (behind + f d + walked_in behind f ds)

abbrev pub walked_by : List ℕ → ℕ → (Data → ℕ) → Data → Option Items → ℕ
walked_by segment behind rest d None = option_map_or rest (pointer segment d) 0
walked_by segment behind rest d (Some items) = if bytes_eq segment (codes "/*") then walked_in behind rest items else option_map_or rest (pointer segment d) 0

-- what the `*` of the segments walk over, whether or not anything stands at the segments
abbrev pub walked_at : List (List ℕ) → Data → ℕ
walked_at [] d = 0
walked_at (segment ∷ segments) d = walked_by segment (octets_of_path segments) (walked_at segments) d (as_array d)

-- ---- references

-- a reference: the call id, the name and the path of a response's arguments
pub record Reference : Type 0 where
  pub result_of : List ℕ
  pub name : List ℕ
  pub path : List ℕ

abbrev pub reference_from : Option (List ℕ) → Option (List ℕ) → Option (List ℕ) → Option Reference
reference_from (Some result_of) (Some name) (Some path) = Some (record { result_of = result_of; name = name; path = path })
reference_from (Some result_of) (Some name) None = None
reference_from (Some result_of) None path = None
reference_from None name path = None

-- an object with these three texts
abbrev pub reference_in : Data → Option Reference
reference_in d = reference_from (option_and_then as_str (get (codes "resultOf") d)) (option_and_then as_str (get (codes "name") d))
    (option_and_then as_str (get (codes "path") d))

-- the first response with the call id, if it has the name
abbrev pub named : List ℕ → CallData → Option CallData
named name call = if bytes_eq call.name name then Some call else None

abbrev pub response_to : Reference → List CallData → Option CallData
response_to reference earlier = option_and_then (named reference.name) (find (λ call. bytes_eq call.id reference.result_of) earlier)

-- what a reference looks into, and the segments of its path
pub record Source : Type 0 where
  pub arguments : Data
  pub segments : List (List ℕ)

abbrev pub source_by : List CallData → Reference → Option Source
source_by earlier reference = option_and_then (λ call. option_map (λ segments. record { arguments = call.arguments; segments = segments }) (segments_of reference.path))
    (response_to reference earlier)

abbrev pub source_of : List CallData → Data → Option Source
source_of earlier d = option_and_then (source_by earlier) (reference_in d)

-- what a reference stands for
abbrev pub value_at : Source → Option Data
value_at source = at_segments source.segments source.arguments

abbrev pub walked_of : Option Source → ℕ
walked_of source = option_map_or (λ s. walked_at s.segments s.arguments) source 0

-- ---- arguments

-- the name after a `#`
abbrev pub referring : List ℕ → Option (List ℕ)
referring key = after_first 35 key

-- a member by reference has the form of one, and its name isn't there besides
abbrev pub is_proper : Data → Option (List ℕ) → Data → Bool
is_proper all None d = true
is_proper all (Some name) d = is_none (get name all) && is_some (reference_in d)

abbrev pub are_proper : Data → Members → Bool
are_proper all no_members = true
are_proper all (member key d ms) = is_proper all (referring key) d && are_proper all ms

-- the name and the value of a member: itself, or what its reference stands for
abbrev pub resolved_member : List CallData → List ℕ → Data → Option (List ℕ) → Option (List ℕ × Data)
resolved_member earlier key d None = Some (key, d)
resolved_member earlier key d (Some name) = option_map (λ value. (name, value)) (option_and_then value_at (source_of earlier d))

-- each member put in turn
abbrev pub resolved_to : List CallData → Members → Members → Option Members
resolved_to earlier found no_members = Some found
resolved_to earlier found (member key d ms) = option_and_then (λ m. resolved_to earlier (put m.0 m.1 found) ms) (resolved_member earlier key d (referring key))

abbrev pub has_reference : Members → Bool
has_reference no_members = false
has_reference (member key d ms) = is_some (referring key) || has_reference ms

abbrev pub walked_for : List CallData → Data → Option (List ℕ) → ℕ
walked_for earlier d None = 0
walked_for earlier d (Some name) = walked_of (source_of earlier d)

-- what the `*` of all references walk over
abbrev pub walked : List CallData → Members → ℕ
walked earlier no_members = 0
walked earlier (member key d ms) = walked_for earlier d (referring key) + walked earlier ms

-- the octets of the text of resolved arguments
abbrev pub octets_of : Option Members → ℕ
octets_of None = 0
octets_of (Some found) = length (compact_text (object found))

abbrev pub resolved_object : Option Members → Result Data MethodError
resolved_object (Some found) = Ok (object found)
resolved_object None = Err InvalidResultReference

-- Each value that is walked over counts an octet and those of the path behind the `*`; with the text they are at most `MAX_RESOLVED_OCTETS`.
abbrev pub within_limit : ℕ → Option Members → Result Data MethodError
within_limit walks found = if nat_lt MAX_RESOLVED_OCTETS (walks + octets_of found) then Err RequestTooLarge else resolved_object found

-- arguments without a reference have no limit here
abbrev pub resolved_if_within : List CallData → Members → Result Data MethodError
resolved_if_within earlier ms = if has_reference ms then within_limit (walked earlier ms) (resolved_to earlier no_members ms)
    else resolved_object (resolved_to earlier no_members ms)

abbrev pub resolved_members : List CallData → Members → Result Data MethodError
resolved_members earlier ms = if are_proper (object ms) ms then resolved_if_within earlier ms else Err InvalidArguments

-- The arguments with each `#name` as `name` and the value that it refers to. Arguments that are no object have no names.
abbrev pub resolved : List CallData → Option Members → Data → Result Data MethodError
resolved earlier (Some ms) d = resolved_members earlier ms
resolved earlier None d = Ok d

abbrev pub resolved_arguments : List CallData → Data → Result Data MethodError
resolved_arguments earlier d = resolved earlier (as_object d) d
