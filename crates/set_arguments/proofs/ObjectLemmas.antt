-- The objects of an object, in the order of their keys.
use Rattle.std.proofs.Common.{◌≡◌, ℕ, Bool, true, List, [], ◌∷◌, ◌++◌, append-nil, append_assoc, ◌∙◌, sym, Option, Some, None, String, Global, Less, string_bytes, string_cmp, refl, ap, option_map, option_and_then}
use Rattle.std.specs.Cmp.Lexicographic.{slice_cmp}
use Rattle.std.specs.List.{AllByRecursion}
use Rattle.std.specs.List.Sorted.{IsStrictlySortedBy}
use Rattle.std.specs.Map.{keys_of}
use Rattle.std.specs.Ordering.{nat_cmp, is_lt}
use Rattle.std.proofs.lemmas.Bool.{and_from}
use Rattle.serde_json.specs.Data.{Members}
use Rattle.serde_json.specs.Find.{as_object}
use Rattle.serde_json.specs.View.{view, members_view}
use Rattle.serde_json.specs.declared.value.Value.{Value}
use Rattle.set_arguments.specs.Arguments.{Keyed, objects_in}
use Rattle.set_arguments.specs.reading.Keys.{ascends, is_below_all}

abbrev Entry : Type 0
Entry = String Global × Value

abbrev is_below_in : List ℕ → Option Keyed → Bool
is_below_in key None = true
is_below_in key (Some cs) = is_below_all key cs

abbrev pub ascend_in : Option Keyed → Bool
ascend_in None = true
ascend_in (Some cs) = ascends cs

abbrev with_first : List ℕ → Option Keyed → Members → Option Keyed
with_first key rest found = option_map (λ (cs : Keyed). (key, found) ∷ cs) rest

below_first : (key first : List ℕ) (rest : Option Keyed) (found : Option Members) → is_lt (slice_cmp nat_cmp key first) ≡ true → is_below_in key rest ≡ true
    → is_below_in key (option_and_then (with_first first rest) found) ≡ true
below_first key first rest None less below = refl
below_first key first None (Some found) less below = refl
below_first key first (Some cs) (Some found) less below = and_from _ _ less below

-- a key that is below all of an object is below those of its objects
below_all : (x : String Global) (es : List Entry) → AllByRecursion (λ y. string_cmp x y ≡ Less) (keys_of es)
    → is_below_in (string_bytes x) (objects_in (members_view es)) ≡ true
below_all x [] all = refl
below_all x (e ∷ es) all =
    below_first (string_bytes x) (string_bytes e.0) (objects_in (members_view es)) (as_object (view e.1)) (ap is_lt all.0) (below_all x es all.1)

ascend_first : (first : List ℕ) (rest : Option Keyed) (found : Option Members) → is_below_in first rest ≡ true → ascend_in rest ≡ true
    → ascend_in (option_and_then (with_first first rest) found) ≡ true
ascend_first first rest None below ascend = refl
ascend_first first None (Some found) below ascend = refl
ascend_first first (Some cs) (Some found) below ascend = and_from _ _ below ascend

-- the keys of objects ascend as those of the object do
pub objects_ascend : (es : List Entry) → IsStrictlySortedBy string_cmp (keys_of es) → ascend_in (objects_in (members_view es)) ≡ true
unfolding IsStrictlySortedBy
objects_ascend [] sorted = refl
objects_ascend (e ∷ es) sorted =
    ascend_first (string_bytes e.0) (objects_in (members_view es)) (as_object (view e.1)) (below_all e.0 es sorted.0) (objects_ascend es sorted.1)

-- the objects of all the members, which were taken one after another
pub all_ascend : (es rest : List Entry) (objects : Keyed) → IsStrictlySortedBy string_cmp (keys_of es)
    → objects_in (members_view es) ≡ option_map (λ (cs : Keyed). objects ++ cs) (objects_in (members_view rest)) → rest ≡ [] → ascends objects ≡ true
all_ascend es rest objects sorted same empty =
    let all : objects_in (members_view es) ≡ Some objects =
    same ∙ ap (λ (r : List Entry). option_map (λ (cs : Keyed). objects ++ cs) (objects_in (members_view r))) empty ∙ ap (λ (cs : Keyed). let one : Option Keyed = Some cs in one) (append-nil objects) in
    ap ascend_in (sym all) ∙ objects_ascend es sorted

one_more : (objects : Keyed) (x : List ℕ × Members) (rest : Option Keyed)
    → option_map (λ (cs : Keyed). objects ++ cs) (option_map (λ (cs : Keyed). x ∷ cs) rest) ≡ option_map (λ (cs : Keyed). (objects ++ x ∷ []) ++ cs) rest
one_more objects x None = refl
one_more objects x (Some cs) = ap (λ (all : Keyed). let one : Option Keyed = Some all in one) (sym (append_assoc objects (x ∷ []) cs))

-- the object of a member is taken
pub object_taken : (es rest : List Entry) (e : Entry) (found : Members) (objects : Keyed) → es ≡ e ∷ rest → Some found ≡ as_object (view e.1)
    → option_map (λ (cs : Keyed). objects ++ cs) (objects_in (members_view es))
    ≡ option_map (λ (cs : Keyed). (objects ++ (string_bytes e.0, found) ∷ []) ++ cs) (objects_in (members_view rest))
object_taken es rest e found objects steps found_is =
    ap (λ (l : List Entry). option_map (λ (cs : Keyed). objects ++ cs) (objects_in (members_view l))) steps
    ∙ ap (λ (o : Option Members). option_map (λ (cs : Keyed). objects ++ cs) (option_and_then (with_first (string_bytes e.0) (objects_in (members_view rest))) o)) (sym found_is)
    ∙ one_more objects (string_bytes e.0, found) (objects_in (members_view rest))
