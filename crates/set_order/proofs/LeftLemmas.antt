-- Those that are to be made, put in a map one after another: their keys ascend, so each is put last.
use Rattle.std.proofs.Common.{◌≡◌, ◌<◌, ◌+◌, ℕ, List, [], ◌∷◌, ◌++◌, map, Bor, Bool, true, false, get_or, length, take, drop, Ordering, Less, Equal, Greater, String, Global, BTreeMap, nat_cmp, refl, sym, ap, ◌∙◌}
use Rattle.std.specs.BTreeMap.{insert_entry}
use Rattle.std.specs.Cmp.Lexicographic.{slice_cmp}
use Rattle.std.specs.List.{list_all}
use Rattle.std.specs.Ordering.{is_lt, match_ordering, ordering_reverse}
use Rattle.std.proofs.lemmas.Bool.{and_from, and_parts}
use Rattle.std.proofs.lemmas.Cmp.{nat_list_cmp_total}
use Rattle.std.proofs.lemmas.List.{drop_more, map-append, take-append-drop, take_more}
use Rattle.serde_json.specs.declared.value.Value.{Value}
use Rattle.set_arguments.specs.Arguments.{Keyed as KeyedData}
use Rattle.set_arguments.specs.declared.asked.Keyed.{Keyed}
use Rattle.set_arguments.specs.reading.Keys.{ascends, is_below_all, keyed_data}
use Rattle.set_order.specs.Ordered.{Creation}
use Rattle.set_order.specs.reading.Waiting.{entry_data}

abbrev Object : Type 0
Object = Bor (BTreeMap (String Global) Value)

abbrev Entry : Type 0
Entry = Bor (List ℕ) × Object

abbrev pub text_cmp : Bor (List ℕ) → Bor (List ℕ) → Ordering
text_cmp a b = slice_cmp nat_cmp a.now b.now

-- ---- order

less : (o : Ordering) → is_lt o ≡ true → o ≡ Less
less Less is = refl
less Equal is = absurd (let no : false ≡ true = is in cc)
less Greater is = absurd (let no : false ≡ true = is in cc)

pub greater : (a b : List ℕ) → slice_cmp nat_cmp a b ≡ Less → slice_cmp nat_cmp b a ≡ Greater
greater a b is = nat_list_cmp_total.antisymm b a ∙ ap ordering_reverse is

-- all of these are below the key
abbrev are_below : KeyedData → List ℕ → Bool
are_below cs key = list_all (λ (c : Creation). is_lt (slice_cmp nat_cmp c.0 key)) cs

below_one : (key : List ℕ) (cs : KeyedData) (d : Creation) (ds : KeyedData) → is_below_all key (cs ++ d ∷ ds) ≡ true → is_lt (slice_cmp nat_cmp key d.0) ≡ true
below_one key [] d ds below = (and_parts (is_lt (slice_cmp nat_cmp key d.0)) (is_below_all key ds) below).0
below_one key (c ∷ cs) d ds below = below_one key cs d ds (and_parts (is_lt (slice_cmp nat_cmp key c.0)) (is_below_all key (cs ++ d ∷ ds)) below).1

-- those before one are below it
before : (cs : KeyedData) (d : Creation) (ds : KeyedData) → ascends (cs ++ d ∷ ds) ≡ true → are_below cs d.0 ≡ true
before [] d ds ascend = refl
before (c ∷ cs) d ds ascend =
    let parts = and_parts (is_below_all c.0 (cs ++ d ∷ ds)) (ascends (cs ++ d ∷ ds)) ascend in
    and_from _ _ (below_one c.0 cs d ds parts.0) (before cs d ds parts.1)

-- ---- the map

-- one that is above all is put last
put_last : (es : List Entry) (key : Bor (List ℕ)) (object : Object) → are_below (map entry_data es) key.now ≡ true
    → map entry_data (insert_entry text_cmp es key object) ≡ map entry_data es ++ entry_data (key, object) ∷ []
put_last [] key object below = refl
put_last (e ∷ es) key object below =
    let parts = and_parts (is_lt (slice_cmp nat_cmp e.0.now key.now)) (are_below (map entry_data es) key.now) below in
    ap (λ (o : Ordering). map entry_data (match_ordering o ((key, object) ∷ e ∷ es) ((e.0, object) ∷ es) (e ∷ insert_entry text_cmp es key object)))
    (greater e.0.now key.now (less (slice_cmp nat_cmp e.0.now key.now) parts.0))
    ∙ ap (λ (cs : KeyedData). entry_data e ∷ cs) (put_last es key object parts.1)

-- the map has one more
pub put_next : (xs : List Keyed) (i : ℕ) (d : Keyed) (es : List Entry) → i < length xs → ascends (map keyed_data xs) ≡ true
    → map entry_data es ≡ map keyed_data (take i xs)
    → map entry_data (insert_entry text_cmp es (get_or xs i d).key (get_or xs i d).object) ≡ map keyed_data (take (i + 1) xs)
put_next xs i d es within ascend same =
    let x : Keyed = get_or xs i d in
    let split : map keyed_data (take i xs) ++ keyed_data x ∷ map keyed_data (drop (i + 1) xs) ≡ map keyed_data xs =
    ap (λ (l : List Keyed). map keyed_data (take i xs) ++ map keyed_data l) (sym (drop_more xs i d within))
    ∙ sym (map-append keyed_data (take i xs) (drop i xs)) ∙ ap (map keyed_data) (take-append-drop i xs) in
    let below : are_below (map entry_data es) x.key.now ≡ true =
    ap (λ (cs : KeyedData). are_below cs x.key.now) same
    ∙ before (map keyed_data (take i xs)) (keyed_data x) (map keyed_data (drop (i + 1) xs)) (ap ascends split ∙ ascend) in
    put_last es x.key x.object below ∙ ap (λ (cs : KeyedData). cs ++ keyed_data x ∷ []) same
    ∙ sym (map-append keyed_data (take i xs) (x ∷ [])) ∙ ap (map keyed_data) (sym (take_more xs i d within))
