-- Patches as the code has them, and what is wrong with them as it is found.
use Rattle.std.specs.Prelude.{ℕ, ◌==◌, Bool, false, List, [], ◌∷◌, map, String, string_bytes, if◌then◌else◌, is_some}
use Rattle.std.specs.declared.alloc.Global.{Global}
use Rattle.std.specs.BTreeSet.{BTreeSet}
use Rattle.std.specs.Cmp.Lexicographic.{slice_cmp}
use Rattle.std.specs.List.{slice_split}
use Rattle.std.specs.Ordering.{nat_cmp}
use Rattle.serde_json.specs.Data.{Data, Members}
use Rattle.serde_json.specs.Find.{get_member}
use Rattle.serde_json.specs.View.{view}
use Rattle.mail_maps.specs.Keywords.{sorted_into}
use Rattle.set_patches.specs.Patches.{Pointer, leads_nowhere, property_of}
use Rattle.set_patches.specs.declared.patches.Part.{Part}

abbrev pub part_data : Part → Pointer × Data
part_data p = (p.pointer, view p.value.now)

abbrev pub names_in : BTreeSet (String Global) → List (List ℕ)
names_in set = map string_bytes set.keys

-- with the property of a part that fails the test
abbrev pub with_wrong : (Pointer → Data → Bool) → List (List ℕ) → Pointer × Data → List (List ℕ)
with_wrong is_right names p = sorted_into (slice_cmp nat_cmp) names (if is_right p.0 p.1 then [] else property_of p.0 ∷ [])

abbrev pub points_nowhere : List (List ℕ) → Pointer × Data → Bool
points_nowhere objects p = leads_nowhere objects p.0

-- the first of several tokens is a member
abbrev pub first_is_member : Members → List (List ℕ) → Bool
first_is_member ms [] = false
first_is_member ms (token ∷ []) = false
first_is_member ms (token ∷ next ∷ tokens) = is_some (get_member token ms)

-- what stands before the first slash of a key is a key too
abbrev pub has_front : Members → List ℕ → Bool
has_front ms key = first_is_member ms (slice_split (λ c. c == 47) key)
