-- The octets of arguments once their references are resolved.
use Rattle.std.proofs.Common.{◌≡◌, ℕ, suc, ◌+◌, ◌<◌, ◌≤◌, max, List, [], ◌∷◌, length, Bool, true, false, ◌&&◌, ◌==◌, if◌then◌else◌, Option, Some, None, option_map, is_some, is_none, Err, Ordering, Less, Equal, Greater, refl, sym, ap, ◌∙◌, arith, string_bytes, string_cmp, nat_cmp}
use Rattle.std.specs.Prelude.{option_and_then}
use Rattle.std.specs.Ordering.{match_ordering}
use Rattle.std.specs.Cmp.Lexicographic.{slice_cmp}
use Rattle.std.specs.List.{AllByRecursion}
use Rattle.std.specs.List.Sorted.{IsStrictlySortedBy}
use Rattle.std.specs.Map.{keys_of}
use Rattle.std.proofs.lemmas.Bool.{eqb-true}
use Rattle.std.proofs.lemmas.Bool.Decides.{nat_tests}
use Rattle.std.proofs.lemmas.Cmp.{nat_list_cmp_total, tied_itself}
use Rattle.json.specs.Print.{quoted}
use Rattle.serde_json.specs.Data.{Data, object, Members, no_members, member, put}
use Rattle.serde_json.specs.Find.{get_member}
use Rattle.serde_json.specs.View.{members_view}
use Rattle.serde_json.specs.Written.{compact_text}
use Rattle.serde_json.proofs.Views.{Entry, get_member-put_other}
use Rattle.jmap_arguments.specs.declared.method_error.MethodError.TheVariants.{InvalidResultReference, RequestTooLarge}
use Rattle.result_references.specs.Call.{CallData}
use Rattle.result_references.specs.References.{Source, referring, is_proper, are_proper, reference_in, resolved_member, resolved_to, source_of, value_at}
use Rattle.result_references.specs.References.{has_reference, walked, octets_of, resolved_object, within_limit, resolved_if_within}
use Rattle.result_references.specs.reading.Counting.{Counts, member_octets, stands_for, all_stand, source_octets, octets_for, resolved_octets}
use Rattle.result_references.specs.declared.counted_octets.TheConstants.{MAX_RESOLVED_OCTETS}
use Rattle.result_references.proofs.TextLengths.{octets-at, object_octets}

-- ---- whether all can be resolved

pub all_stand-resolved : (earlier : List CallData) (found ms : Members) → all_stand earlier ms ≡ is_some (resolved_to earlier found ms)
all_stand-resolved earlier found no_members = refl
all_stand-resolved earlier found (member key d ms) = go (referring key) (λ (m : Members). all_stand-resolved earlier m ms)
  where
    by : (name : List ℕ) (value : Option Data) → ((m : Members) → all_stand earlier ms ≡ is_some (resolved_to earlier m ms))
        → (is_some value && all_stand earlier ms) ≡ is_some (option_and_then (λ (m : List ℕ × Data). resolved_to earlier (put m.0 m.1 found) ms) (option_map (λ v. (name, v)) value))
    by name None later = refl
    by name (Some v) later = later (put name v found)

    go : (name : Option (List ℕ)) → ((m : Members) → all_stand earlier ms ≡ is_some (resolved_to earlier m ms)) → (stands_for earlier d name && all_stand earlier ms)
        ≡ is_some (option_and_then (λ (m : List ℕ × Data). resolved_to earlier (put m.0 m.1 found) ms) (resolved_member earlier key d name))
    go None later = later (put key d found)
    go (Some name) later = by name (option_and_then value_at (source_of earlier d)) later

-- ---- names

-- under which a member comes to stand
abbrev name_by : List ℕ → Option (List ℕ) → List ℕ
name_by key None = key
name_by key (Some name) = name

abbrev name_of : List ℕ → List ℕ
name_of key = name_by key (referring key)

-- each name is new where it is put
abbrev AreNew : Members → Members → Type 0
AreNew found no_members = Unit {0}
AreNew found (member key d ms) = (get_member (name_of key) found ≡ None) × ((v : Data) → AreNew (put (name_of key) v found) ms)

-- no name is there
abbrev AreFree : Members → Members → Type 0
AreFree found no_members = Unit {0}
AreFree found (member key d ms) = (get_member (name_of key) found ≡ None) × AreFree found ms

abbrev IsNoName : List ℕ → Members → Type 0
IsNoName name no_members = Unit {0}
IsNoName name (member key d ms) = (name_of key ≡ name → ⊥) × IsNoName name ms

abbrev AreApart : Members → Type 0
AreApart no_members = Unit {0}
AreApart (member key d ms) = IsNoName (name_of key) ms × AreApart ms

AreFree-put : (name : List ℕ) (v : Data) (found ms : Members) → AreFree found ms → IsNoName name ms → AreFree (put name v found) ms
AreFree-put name v found no_members free apart = tt
AreFree-put name v found (member key d ms) free apart = (get_member-put_other (name_of key) name v found apart.0 ∙ free.0, AreFree-put name v found ms free.1 apart.1)

new-from_apart : (found ms : Members) → AreFree found ms → AreApart ms → AreNew found ms
new-from_apart found no_members free apart = tt
new-from_apart found (member key d ms) free apart = (free.0, λ v. new-from_apart (put (name_of key) v found) ms (AreFree-put (name_of key) v found ms free.1 apart.0) apart.1)

free_of_none : (ms : Members) → AreFree no_members ms
free_of_none no_members = tt
free_of_none (member key d ms) = (refl, free_of_none ms)

-- ---- keys

abbrev IsNoKey : List ℕ → Members → Type 0
IsNoKey key no_members = Unit {0}
IsNoKey key (member other d ms) = (other ≡ key → ⊥) × IsNoKey key ms

abbrev AreKeysApart : Members → Type 0
AreKeysApart no_members = Unit {0}
AreKeysApart (member key d ms) = IsNoKey key ms × AreKeysApart ms

never_below_itself : (xs ys : List ℕ) → slice_cmp nat_cmp xs ys ≡ Less → ys ≡ xs → ⊥
never_below_itself xs ys below same =
    let tied : slice_cmp nat_cmp xs xs ≡ Equal = tied_itself nat_list_cmp_total xs in
    let again : slice_cmp nat_cmp xs xs ≡ Less = ap (λ (zs : List ℕ). slice_cmp nat_cmp xs zs) (sym same) ∙ below in
    cc

no_key-sorted : (e : Entry) (es : List Entry) → AllByRecursion (λ y. string_cmp e.0 y ≡ Less) (keys_of es) → IsNoKey (string_bytes e.0) (members_view es)
no_key-sorted e [] above = tt
no_key-sorted e (f ∷ es) above = (never_below_itself (string_bytes e.0) (string_bytes f.0) above.0, no_key-sorted e es above.1)

apart-sorted : (es : List Entry) → IsStrictlySortedBy string_cmp (keys_of es) → AreKeysApart (members_view es)
unfolding IsStrictlySortedBy
apart-sorted [] sorted = tt
apart-sorted (e ∷ es) sorted = (no_key-sorted e es sorted.0, apart-sorted es sorted.1)

-- the keys of some members are there among all
abbrev AreThere : Members → Members → Type 0
AreThere all no_members = Unit {0}
AreThere all (member key d ms) = (get_member key all ≡ None → ⊥) × AreThere all ms

found_here : (k : List ℕ) (d : Data) (ms : Members) → get_member k (member k d ms) ≡ None → ⊥
found_here k d ms none =
    let tied : slice_cmp nat_cmp k k ≡ Equal = tied_itself nat_list_cmp_total k in
    let some : get_member k (member k d ms) ≡ Some d = rw tied in
    cc

none_later : (k l : List ℕ) (e : Data) (ms : Members) → get_member k (member l e ms) ≡ None → get_member k ms ≡ None
none_later k l e ms none = go (slice_cmp nat_cmp k l) none
  where
    go : (o : Ordering) → match_ordering o (get_member k ms) (Some e) (get_member k ms) ≡ None → get_member k ms ≡ None
    go Less none = none
    go Equal none = cc
    go Greater none = none

there-more : (all ms : Members) (l : List ℕ) (e : Data) → AreThere all ms → AreThere (member l e all) ms
there-more all no_members l e there = tt
there-more all (member key d ms) l e there = ((λ none. there.0 (none_later key l e all none)), there-more all ms l e there.1)

all_there : (ms : Members) → AreThere ms ms
all_there no_members = tt
all_there (member key d ms) = (found_here key d ms, there-more ms ms key d (all_there ms))

-- ---- names of keys that are apart

referred : (key name : List ℕ) → referring key ≡ Some name → key ≡ 35 ∷ name
referred [] name is = cc
referred (x ∷ xs) name is = go (x == 35) refl is
  where
    go : (t : Bool) → (x == 35) ≡ t → (if t then Some xs else None) ≡ Some name → x ∷ xs ≡ 35 ∷ name
    go true at is = let same : xs ≡ name = cc in ap (λ n. n ∷ xs) (eqb-true x 35 at) ∙ ap (λ (s : List ℕ). 35 ∷ s) same
    go false at is = cc

-- the name of a reference is not there
not_there : (all : Members) (name : List ℕ) (d : Data) → is_proper (object all) (Some name) d ≡ true → get_member name all ≡ None
not_there all name d proper = go (get_member name all) proper
  where
    go : (o : Option Data) → (is_none o && is_some (reference_in d)) ≡ true → o ≡ None
    go None proper = refl
    go (Some e) proper = cc

and_left : (a b : Bool) → (a && b) ≡ true → a ≡ true
and_left true b is = refl
and_left false b is = is

and_right : (a b : Bool) → (a && b) ≡ true → b ≡ true
and_right true b is = is
and_right false b is = cc

two_names : (all : Members) (key other : List ℕ) (d e : Data) (r s : Option (List ℕ)) → referring key ≡ r → referring other ≡ s → (other ≡ key → ⊥)
    → is_proper (object all) r d ≡ true → is_proper (object all) s e ≡ true → (get_member key all ≡ None → ⊥) → (get_member other all ≡ None → ⊥)
    → name_by other s ≡ name_by key r → ⊥
two_names all key other d e None None at js apart p q here there same = apart same
two_names all key other d e None (Some n) at js apart p q here there same = here (ap (λ (k : List ℕ). get_member k all) (sym same) ∙ not_there all n e q)
two_names all key other d e (Some m) None at js apart p q here there same = there (ap (λ (k : List ℕ). get_member k all) same ∙ not_there all m d p)
two_names all key other d e (Some m) (Some n) at js apart p q here there same =
    apart (referred other n js ∙ ap (λ (k : List ℕ). 35 ∷ k) same ∙ sym (referred key m at))

no_name : (all : Members) (key : List ℕ) (d : Data) (ms : Members) → is_proper (object all) (referring key) d ≡ true → (get_member key all ≡ None → ⊥) → IsNoKey key ms → are_proper (object all) ms ≡ true → AreThere all ms
    → IsNoName (name_of key) ms
no_name all key d no_members p here apart proper there = tt
no_name all key d (member other e ms) p here apart proper there =
    let first = and_left (is_proper (object all) (referring other) e) (are_proper (object all) ms) proper in
    let rest = and_right (is_proper (object all) (referring other) e) (are_proper (object all) ms) proper in (
      two_names all key other d e (referring key) (referring other) refl refl apart.0 p first here there.0,
      no_name all key d ms p here apart.1 rest there.1,
    )

names_apart : (all ms : Members) → AreKeysApart ms → are_proper (object all) ms ≡ true → AreThere all ms → AreApart ms
names_apart all no_members apart proper there = tt
names_apart all (member key d ms) apart proper there =
    let first = and_left (is_proper (object all) (referring key) d) (are_proper (object all) ms) proper in
    let rest = and_right (is_proper (object all) (referring key) d) (are_proper (object all) ms) proper in (
      no_name all key d ms first there.0 apart.0 rest there.1,
      names_apart all ms apart.1 rest there.1,
    )

-- ---- the octets of all

member_octets-put : (k : List ℕ) (d : Data) (found : Members) → get_member k found ≡ None → member_octets (put k d found) ≡ 2 + length (quoted k) + length (compact_text d) + member_octets found
member_octets-put k d no_members none = refl
member_octets-put k d (member l e ms) none = go (slice_cmp nat_cmp k l) (λ (n : get_member k ms ≡ None). member_octets-put k d ms n) none
  where
    go : (o : Ordering) → (get_member k ms ≡ None → member_octets (put k d ms) ≡ 2 + length (quoted k) + length (compact_text d) + member_octets ms)
        → match_ordering o (get_member k ms) (Some e) (get_member k ms) ≡ None
        → member_octets (match_ordering o (member k d (member l e ms)) (member l d ms) (member l e (put k d ms)))
        ≡ 2 + length (quoted k) + length (compact_text d) + member_octets (member l e ms)
    go Less later none = refl
    go Equal later none = cc
    go Greater later none = omega (arith, later none)

source_octets-value : (source : Option Source) (v : Data) → option_and_then value_at source ≡ Some v → source_octets source ≡ length (compact_text v)
source_octets-value None v is = cc
source_octets-value (Some s) v is = sym (octets-at s.segments s.arguments v is)

octets-resolved : (earlier : List CallData) (found ms out : Members) → AreNew found ms → resolved_to earlier found ms ≡ Some out
    → member_octets out ≡ member_octets found + resolved_octets earlier ms
octets-resolved earlier found no_members out new is = let same : found ≡ out = cc in omega (arith, ap member_octets same)
octets-resolved earlier found (member key d ms) out new is =
    go (referring key) (λ (k : List ℕ) (v : Data) (apart : AreNew (put k v found) ms) (all : resolved_to earlier (put k v found) ms ≡ Some out). octets-resolved earlier (put k v found) ms out apart all)
    new.0 new.1 is
  where
    put-then : ((k : List ℕ) (v : Data) → AreNew (put k v found) ms → resolved_to earlier (put k v found) ms ≡ Some out
        → member_octets out ≡ member_octets (put k v found) + resolved_octets earlier ms)
        → (k : List ℕ) (v : Data) → get_member k found ≡ None → AreNew (put k v found) ms → resolved_to earlier (put k v found) ms ≡ Some out
        → member_octets out ≡ member_octets found + (2 + length (quoted k) + length (compact_text v) + resolved_octets earlier ms)
    put-then later k v none new is = omega (arith, later k v new is, member_octets-put k v found none)

    by : ((k : List ℕ) (v : Data) → AreNew (put k v found) ms → resolved_to earlier (put k v found) ms ≡ Some out
        → member_octets out ≡ member_octets (put k v found) + resolved_octets earlier ms)
        → (name : List ℕ) (source : Option Source) (value : Option Data) → option_and_then value_at source ≡ value → get_member name found ≡ None → ((v : Data) → AreNew (put name v found) ms)
        → option_and_then (λ (m : List ℕ × Data). resolved_to earlier (put m.0 m.1 found) ms) (option_map (λ v. (name, v)) value) ≡ Some out
        → member_octets out ≡ member_octets found + (2 + length (quoted name) + source_octets source + resolved_octets earlier ms)
    by later name source None at none new is = cc
    by later name source (Some v) at none new is = omega (arith, put-then later name v none (new v) is, source_octets-value source v at)

    go : (r : Option (List ℕ))
        → ((k : List ℕ) (v : Data) → AreNew (put k v found) ms → resolved_to earlier (put k v found) ms ≡ Some out
        → member_octets out ≡ member_octets (put k v found) + resolved_octets earlier ms)
        → get_member (name_by key r) found ≡ None → ((v : Data) → AreNew (put (name_by key r) v found) ms)
        → option_and_then (λ (m : List ℕ × Data). resolved_to earlier (put m.0 m.1 found) ms) (resolved_member earlier key d r) ≡ Some out
        → member_octets out ≡ member_octets found + (octets_for earlier key d r + resolved_octets earlier ms)
    go None later none new is = put-then later key d none (new d) is
    go (Some name) later none new is = by later name (source_of earlier d) (option_and_then value_at (source_of earlier d)) refl none new is

-- the text of the resolved arguments
pub octets_of-resolved : (earlier : List CallData) (es : List Entry) (out : Members) → IsStrictlySortedBy string_cmp (keys_of es)
    → are_proper (object (members_view es)) (members_view es) ≡ true → resolved_to earlier no_members (members_view es) ≡ Some out
    → length (compact_text (object out)) ≡ suc (max 1 (resolved_octets earlier (members_view es)))
octets_of-resolved earlier es out sorted proper is =
    let ms = members_view es in
    let apart = names_apart ms ms (apart-sorted es sorted) proper (all_there ms) in
    let new = new-from_apart no_members ms (free_of_none ms) apart in
    object_octets out ∙ ap (λ n. suc (max 1 n)) (octets-resolved earlier no_members ms out new is ∙ zero_more (resolved_octets earlier ms))
  where
    zero_more : (n : ℕ) → 0 + n ≡ n
    zero_more n = omega arith

-- ---- the check

too_long : (walks : ℕ) (found : Option Members) → MAX_RESOLVED_OCTETS < walks + octets_of found → within_limit walks found ≡ Err RequestTooLarge
too_long walks found above = grind (arith, nat_tests)

short : (walks : ℕ) (found : Option Members) → walks + octets_of found ≤ MAX_RESOLVED_OCTETS → within_limit walks found ≡ resolved_object found
short walks found within = grind (arith, nat_tests)

module _ (earlier : List CallData) (ms : Members) where
  with_reference : has_reference ms ≡ true → resolved_if_within earlier ms ≡ within_limit (walked earlier ms) (resolved_to earlier no_members ms)
  with_reference has = rw has

  pub no_reference : has_reference ms ≡ false → resolved_if_within earlier ms ≡ resolved_object (resolved_to earlier no_members ms)
  no_reference none = rw none

  -- more values are walked over than the limit
  pub walked_past : has_reference ms ≡ true → MAX_RESOLVED_OCTETS < walked earlier ms → resolved_if_within earlier ms ≡ Err RequestTooLarge
  walked_past has above = with_reference has ∙ too_long (walked earlier ms) (resolved_to earlier no_members ms) (omega arith)

  -- one can't be resolved
  pub unresolved : has_reference ms ≡ true → walked earlier ms ≤ MAX_RESOLVED_OCTETS → all_stand earlier ms ≡ false → resolved_if_within earlier ms ≡ Err InvalidResultReference
  unresolved has within lacks = with_reference has ∙ go (resolved_to earlier no_members ms) (sym (all_stand-resolved earlier no_members ms) ∙ lacks)
    where
      go : (found : Option Members) → is_some found ≡ false → within_limit (walked earlier ms) found ≡ Err InvalidResultReference
      go None is = short (walked earlier ms) None (omega arith)
      go (Some found) is = cc

module _ (earlier : List CallData) (es : List Entry) (sorted : IsStrictlySortedBy string_cmp (keys_of es)) (proper : are_proper (object (members_view es)) (members_view es) ≡ true) where
  octets_if_all : (found : Option Members) → resolved_to earlier no_members (members_view es) ≡ found → all_stand earlier (members_view es) ≡ true
      → octets_of found ≡ suc (max 1 (resolved_octets earlier (members_view es)))
  octets_if_all None is stand =
      let lacks : all_stand earlier (members_view es) ≡ false = all_stand-resolved earlier no_members (members_view es) ∙ ap is_some is in
      cc
  octets_if_all (Some out) is stand = octets_of-resolved earlier es out sorted proper is

  -- the text is past the limit
  pub octets_past : has_reference (members_view es) ≡ true → all_stand earlier (members_view es) ≡ true
      → MAX_RESOLVED_OCTETS < walked earlier (members_view es) + suc (max 1 (resolved_octets earlier (members_view es)))
      → resolved_if_within earlier (members_view es) ≡ Err RequestTooLarge
  octets_past has stand above =
      let found = resolved_to earlier no_members (members_view es) in
      with_reference earlier (members_view es) has ∙ too_long (walked earlier (members_view es)) found (omega (arith, octets_if_all found refl stand))

  -- all is within
  pub octets_within : has_reference (members_view es) ≡ true → all_stand earlier (members_view es) ≡ true
      → walked earlier (members_view es) + suc (max 1 (resolved_octets earlier (members_view es))) ≤ MAX_RESOLVED_OCTETS
      → resolved_if_within earlier (members_view es) ≡ resolved_object (resolved_to earlier no_members (members_view es))
  octets_within has stand within =
      let found = resolved_to earlier no_members (members_view es) in
      with_reference earlier (members_view es) has ∙ short (walked earlier (members_view es)) found (omega (arith, octets_if_all found refl stand))

-- ---- counts

pub counted_past : (counted : Option ℕ) (total : ℕ) → Counts counted total → is_none counted ≡ true → MAX_RESOLVED_OCTETS < total
counted_past None total counts none = counts
counted_past (Some n) total counts none = cc

pub counted_within : (counted : Option ℕ) (total : ℕ) → Counts counted total → is_none counted ≡ false → total ≤ MAX_RESOLVED_OCTETS
counted_within None total counts some = cc
counted_within (Some n) total counts some = omega (arith, counts.0, counts.1)
