-- Patches: which properties an update names, and what is wrong with them (RFC 8620 section 5.3).
use Rattle.std.specs.Prelude.{ℕ, ◌==◌, ◌||◌, Bool, true, false, not, List, [], ◌∷◌, ◌++◌, map, nat_eq, filter}
use Rattle.std.specs.List.{list_any, slice_split, starts_with}
use Rattle.std.specs.Cmp.Lexicographic.{slice_cmp}
use Rattle.std.specs.Ordering.{nat_cmp}
use Rattle.serde_json.specs.Data.{Data, null, boolean, Members, no_members, member}
use Rattle.serde_json.specs.Find.{unescape}
use Rattle.jmap_arguments.specs.Arguments.{is_among}
use Rattle.mail_maps.specs.Keywords.{sorted_into}
pub use Rattle.set_patches.specs.declared.patches.Pointer.{Pointer}
pub use Rattle.set_patches.specs.declared.patches.Pointer.TheVariants.{Whole, Within, Deeper}

abbrev pub members_list : Members → List (List ℕ × Data)
members_list no_members = []
members_list (member k d ms) = (k, d) ∷ members_list ms

abbrev pub member_keys : Members → List (List ℕ)
member_keys ms = map (λ (e : List ℕ × Data). e.0) (members_list ms)

-- ---- pointers (RFC 6901), without their first slash

abbrev pub pointer_at : List (List ℕ) → Pointer
pointer_at [] = Whole []
pointer_at (property ∷ []) = Whole property
pointer_at (property ∷ key ∷ []) = Within property key
pointer_at (property ∷ key ∷ further ∷ tokens) = Deeper property

-- where a key of a patch points: its tokens stand between slashes
abbrev pub pointer_of : List ℕ → Pointer
pointer_of key = pointer_at (map unescape (slice_split (λ c. c == 47) key))

abbrev pub property_of : Pointer → List ℕ
property_of (Whole p) = p
property_of (Within p key) = p
property_of (Deeper p) = p

-- the parts of a patch: where each points, and the value
abbrev pub Patch : Type 0
Patch = List (Pointer × Data)

abbrev pub patch_in : Members → Patch
patch_in ms = map {B = Pointer × Data} (λ (e : List ℕ × Data). (pointer_of e.0, e.1)) (members_list ms)

-- the members of an object that is to be made, which are properties and no pointers
abbrev pub properties_in : Members → Patch
properties_in ms = map {B = Pointer × Data} (λ (e : List ℕ × Data). (Whole e.0, e.1)) (members_list ms)

-- ---- pointers that overlap, or lead nowhere

-- one points into what the other points at, which is a prefix of it
abbrev pub points_into : List ℕ → List ℕ → Bool
points_into key other = starts_with nat_eq key (other ++ 47 ∷ [])

abbrev pub overlap : List (List ℕ) → Bool
overlap keys = list_any (λ key. list_any (points_into key) keys) keys

-- into a text, a number, a truth value or an array, or into what isn't there: these properties alone have members, and no member has further ones
abbrev pub leads_nowhere : List (List ℕ) → Pointer → Bool
leads_nowhere objects (Whole p) = false
leads_nowhere objects (Within p key) = not (is_among p objects)
leads_nowhere objects (Deeper p) = true

abbrev pub is_invalid_patch : List (List ℕ) → Members → Bool
is_invalid_patch objects ms = list_any (λ (p : Pointer × Data). leads_nowhere objects p.0) (patch_in ms) || overlap (member_keys ms)

-- ---- what is wrong

-- the properties of the parts that fail the test, sorted, each once
abbrev pub wrong_properties : (Pointer → Data → Bool) → Patch → List (List ℕ)
wrong_properties is_right parts =
    sorted_into (slice_cmp nat_cmp) [] (map (λ (p : Pointer × Data). property_of p.0) (filter (λ (p : Pointer × Data). not (is_right p.0 p.1)) parts))

abbrev pub is_true : Data → Bool
is_true (boolean b) = b
is_true _ = false

abbrev pub is_null : Data → Bool
is_null null = true
is_null _ = false
