-- The ids of what was created, by creation id (RFC 8620 section 3.3): pairs of a creation id and an id, in the byte order of the first.
use Rattle.std.specs.Prelude.{ℕ, List, [], ◌∷◌, Option, Some, option_and_then}
use Rattle.std.specs.Ordering.{nat_cmp}
use Rattle.std.specs.Cmp.Lexicographic.{slice_cmp}
use Rattle.std.specs.BTreeMap.{insert_entry, is_at}
use Rattle.std.specs.Map.{lookup}
use Rattle.serde_json.specs.Data.{string, Members, no_members, member}
use Rattle.serde_json.specs.Find.{as_str}

abbrev pub Ids : Type 0
Ids = List (List ℕ × List ℕ)

-- the ids, with this one at the creation id, also where it had another
abbrev pub put_id : List ℕ → List ℕ → Ids → Ids
put_id creation id ids = insert_entry (slice_cmp nat_cmp) ids creation id

abbrev pub id_of : List ℕ → Ids → Option (List ℕ)
id_of creation ids = lookup (is_at (slice_cmp nat_cmp creation)) ids

-- the members of an object of texts, each put at its key
abbrev pub given_to : Ids → Members → Option Ids
given_to ids no_members = Some ids
given_to ids (member creation d ms) = option_and_then (λ id. given_to (put_id creation id ids) ms) (as_str d)

abbrev pub id_members : Ids → Members
id_members [] = no_members
id_members (e ∷ es) = member e.0 (string e.1) (id_members es)
