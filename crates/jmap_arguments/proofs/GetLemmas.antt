-- What a /get asks and lists, one number after another, and that it has integers alone.
use Rattle.std.proofs.Common.{◌≡◌, ◌<◌, ◌+◌, ℕ, List, [], ◌∷◌, ◌++◌, map, drop, drop-cons, get_or, add-one, append-nil, append_assoc, option_map}
use Rattle.std.proofs.Common.{Bool, true, false, cond, if◌then◌else◌, nat_lt, nat_cmp, length, is_none, Option, Some}
use Rattle.std.proofs.Common.{None, Result, Ok, Err, refl, sym, ap, ◌∙◌, subst}
use Rattle.std.specs.BTreeMap.{is_at}
use Rattle.std.specs.List.{All, Contains, filter, filter_map, find, cons_option}
use Rattle.std.specs.List.Sorted.{IsStrictlySortedBy}
use Rattle.std.specs.Map.{lookup, keys_of, values_of}
use Rattle.std.specs.Option.{IfSome}
use Rattle.std.specs.Result.{IfOk}
use Rattle.std.specs.Str.{bytes_eq}
use Rattle.std.specs.Cmp.{eq_by_cmp_equiv}
use Rattle.std.proofs.lemmas.Cmp.{nat_cmp_total}
use Rattle.std.proofs.lemmas.List.{map-append}
use Rattle.std.proofs.lemmas.List.Elements.{All-head, All-tail, All-weaker, All-contains_itself, filter_agree}
use Rattle.std.proofs.lemmas.Map.Entries.{length-keys_of}
use Rattle.std.proofs.lemmas.Map.Keys.{IsDistinct-from_sorted}
use Rattle.std.proofs.lemmas.Map.Views.{lookup-from_Contains}
use Rattle.serde_json.specs.Data.{Data, string}
use Rattle.serde_json.specs.View.{view, items_of}
use Rattle.serde_json.specs.Written.{has_float, items_have_float}
use Rattle.serde_json.specs.declared.value.Value.{Value}
use Rattle.jmap_arguments.specs.Arguments.{count_check}
use Rattle.jmap_arguments.specs.Gets.{GetAsked, FoundObjects, NumbersAsked, number_with, asked_with, numbers_asked, object_with, distinct_ids}
use Rattle.jmap_arguments.specs.Gets.{found_in, get_data, get_answer, get_answered}
use Rattle.jmap_arguments.specs.Ids.{id_text}
use Rattle.jmap_arguments.specs.Outcome.{Agrees}
use Rattle.jmap_arguments.specs.declared.method_error.MethodError.{MethodError}
use Rattle.jmap_arguments.specs.declared.method_error.MethodError.TheVariants.{RequestTooLarge, Memory}
use Rattle.jmap_arguments.proofs.IdLemmas.{found_is, is_here}

-- ---- all objects

module _ {X : Type 0} where
  abbrev IsFoundIn : List (ℕ × X) → ℕ × X → Type 0
  IsFoundIn rows e = lookup (is_at (nat_cmp e.0)) rows ≡ Some e.1

  listed : (rows es : List (ℕ × X)) → All (IsFoundIn rows) es → filter_map (λ n. lookup (is_at (nat_cmp n)) rows) (keys_of es) ≡ values_of es
  listed rows [] all = refl
  listed rows (e ∷ es) all =
      ap (λ (o : Option X). cons_option o (filter_map (λ n. lookup (is_at (nat_cmp n)) rows) (keys_of es))) (All-head (IsFoundIn rows) e es all)
      ∙ ap (λ (xs : List X). e.1 ∷ xs) (listed rows es (All-tail (IsFoundIn rows) e es all))

  -- what is there of ascending numbers is there of all of them
  pub all_listed : (rows : List (ℕ × X)) → IsStrictlySortedBy nat_cmp (keys_of rows) → filter_map (λ n. lookup (is_at (nat_cmp n)) rows) (keys_of rows) ≡ values_of rows
  all_listed rows sorted = listed rows rows (All-weaker (Contains rows) (IsFoundIn rows)
      (λ e there. lookup-from_Contains (eq_by_cmp_equiv nat_cmp_total) e.0 e.1 rows (IsDistinct-from_sorted nat_cmp (keys_of rows) sorted) there)
      rows (All-contains_itself rows))

-- ---- one number more

joined : (shown rest : List Data) (o : Option Data) → shown ++ cons_option o rest ≡ (shown ++ cons_option o []) ++ rest
joined shown rest None = ap (λ (l : List Data). l ++ rest) (sym (append-nil shown))
joined shown rest (Some d) = sym (append_assoc shown (d ∷ []) rest)

module _ (found : ℕ → Option Data) (ns : List ℕ) (i : ℕ) (inside : i < length ns) where
  found_next : filter_map found (drop i ns) ≡ cons_option (found (get_or ns i 0)) (filter_map found (drop (i + 1) ns))
  found_next =
      let cut : drop i ns ≡ get_or ns i 0 ∷ drop (i + 1) ns = rw add-one (drop-cons ns i 0 inside) in
      ap (λ (l : List ℕ). filter_map found l) cut

  with_next : (shown : List Data) (o : Option Data) → o ≡ found (get_or ns i 0) → filter_map found ns ≡ shown ++ filter_map found (drop i ns)
      → filter_map found ns ≡ (shown ++ cons_option o []) ++ filter_map found (drop (i + 1) ns)
  with_next shown o is so_far =
      so_far ∙ ap (λ (l : List Data). shown ++ l) found_next ∙ ap (λ (x : Option Data). shown ++ cons_option x (filter_map found (drop (i + 1) ns))) (sym is)
      ∙ joined shown (filter_map found (drop (i + 1) ns)) o

  -- a number of which there is no object
  pub none_listed : (list : List Value) (o : Option Value) → o ≡ None → option_map view o ≡ found (get_or ns i 0)
      → filter_map found ns ≡ map view list ++ filter_map found (drop i ns) → filter_map found ns ≡ map view list ++ filter_map found (drop (i + 1) ns)
  none_listed list o none is so_far =
      with_next (map view list) None (sym (ap (λ (x : Option Value). option_map view x) none) ∙ is) so_far
      ∙ ap (λ (l : List Data). l ++ filter_map found (drop (i + 1) ns)) (append-nil (map view list))

  -- a number of which there is one
  pub one_listed : (list next : List Value) (o : Option Value) (object : Value) → o ≡ Some object → next ≡ list ++ object ∷ [] → option_map view o ≡ found (get_or ns i 0)
      → filter_map found ns ≡ map view list ++ filter_map found (drop i ns) → filter_map found ns ≡ map view next ++ filter_map found (drop (i + 1) ns)
  one_listed list next o object one more is so_far =
      with_next (map view list) (Some (view object)) (sym (ap (λ (x : Option Value). option_map view x) one) ∙ is) so_far
      ∙ ap (λ (l : List Data). l ++ filter_map found (drop (i + 1) ns)) (sym (ap (λ (l : List Value). map view l) more ∙ map-append view list (object ∷ [])))

-- ---- the numbers that are asked

-- where ids are asked
pub asked_by_ids : (letter : ℕ) (there : List ℕ) (ids once : List (List ℕ)) (numbers : List ℕ) (missing : List (List ℕ))
    → once ≡ distinct_ids ids → numbers ≡ (asked_with letter there once).numbers → missing ≡ (asked_with letter there once).missing
    → numbers_asked letter there (Some ids) ≡ Ok (record { numbers = numbers; missing = missing })
asked_by_ids letter there ids once numbers missing once_is numbers_are missing_are =
    let answer : List ℕ → List (List ℕ) → Result NumbersAsked MethodError = λ ns ms. Ok (record { numbers = ns; missing = ms }) in
    ap (λ (o : List (List ℕ)). answer (asked_with letter there o).numbers (asked_with letter there o).missing) (sym once_is)
    ∙ ap (λ (ns : List ℕ). answer ns (asked_with letter there once).missing) (sym numbers_are)
    ∙ ap (answer numbers) (sym missing_are)

-- all of them, where they aren't too many
abbrev all_if : Bool → NumbersAsked → Result NumbersAsked MethodError
all_if many asked = if many then Err RequestTooLarge else Ok asked

few : (many : Bool) (asked : NumbersAsked) (u : Unit {0}) → (let r : Result (Unit {0}) MethodError = Ok u in r) ≡ (if many then Err RequestTooLarge else Ok tt)
    → all_if many asked ≡ Ok asked
few true asked u is = absurd (cc)
few false asked u is = refl

-- where all are asked, and they aren't too many
pub asked_by_null : (letter : ℕ) (there numbers : List ℕ) (missing : List (List ℕ)) (count : ℕ) (u : Unit {0})
    → (let r : Result (Unit {0}) MethodError = Ok u in r) ≡ count_check count → count ≡ length there → numbers ≡ there → missing ≡ []
    → numbers_asked letter there None ≡ Ok (record { numbers = numbers; missing = missing })
asked_by_null letter there numbers missing count u fits long all none =
    let answer : List ℕ → List (List ℕ) → Result NumbersAsked MethodError = λ ns ms. Ok (record { numbers = ns; missing = ms }) in
    let asked : NumbersAsked = record { numbers = there; missing = [] } in
    ap (λ (n : ℕ). all_if (nat_lt 500 n) asked) (sym long) ∙ few (nat_lt 500 count) asked u fits
    ∙ ap (λ (ns : List ℕ). answer ns []) (sym all) ∙ ap (answer numbers) (sym none)

-- no texts are none, however they are seen
pub none_seen : {A : Type 0} (xs : List A) (see : A → List ℕ) → xs ≡ [] → map see xs ≡ []
none_seen xs see none = ap (map see) none

-- ---- the objects of these numbers

-- what is found passes
passes_at : (test : ℕ → Bool) (ks : List ℕ) (n : ℕ) → find test ks ≡ Some n → test n ≡ true
passes_at test [] n is = absurd (let none : None ≡ Some n = is in cc)
passes_at test (k ∷ ks) n is = elim (test k) as (λ b. test k ≡ b → cond b (Some k) (find test ks) ≡ Some n → test n ≡ true) [
  | true ↦ λ passes same. let first : Some k ≡ Some n = same in let at : k ≡ n = cc in ap test (sym at) ∙ passes
  | false ↦ λ fails rest. passes_at test ks n rest
] refl is

-- a number that doesn't pass is another one
is_other : (test : ℕ → Bool) (n k : ℕ) → test k ≡ false → test n ≡ true → is_at (nat_cmp n) k ≡ false
is_other test n k fails passes = elim (is_at (nat_cmp n) k) as (λ b. is_at (nat_cmp n) k ≡ b → b ≡ false) [
  | true ↦ λ is. absurd (let both : true ≡ false = sym passes ∙ ap test (sym (found_is n k is)) ∙ fails in cc)
  | false ↦ λ is. refl
] refl

-- what is there of a number, where one is found
abbrev IsSame : List (ℕ × Data) → Option ℕ → Option Data → Type 0
IsSame objects None found = found ≡ None
IsSame objects (Some n) found = lookup (is_at (nat_cmp n)) objects ≡ found

-- by the number that is found the same is found as by the test itself
found_there : (test : ℕ → Bool) (objects : List (ℕ × Data)) (n : ℕ) → find test (keys_of objects) ≡ Some n → lookup (is_at (nat_cmp n)) objects ≡ lookup test objects
found_there test [] n is = absurd (let none : None ≡ Some n = is in cc)
found_there test (e ∷ es) n is =
    elim (test e.0) as (λ b. test e.0 ≡ b → cond b (Some e.0) (find test (keys_of es)) ≡ Some n
    → cond (is_at (nat_cmp n) e.0) (Some e.1) (lookup (is_at (nat_cmp n)) es) ≡ cond b (Some e.1) (lookup test es)) [
      | true ↦ λ passes same.
          let first : Some e.0 ≡ Some n = same in
          let at : e.0 ≡ n = cc in
          ap (λ (b : Bool). cond b (Some e.1) (lookup (is_at (nat_cmp n)) es)) (is_here n e.0 at)
      | false ↦ λ fails rest.
          ap (λ (b : Bool). cond b (Some e.1) (lookup (is_at (nat_cmp n)) es)) (is_other test n e.0 fails (passes_at test (keys_of es) n rest))
          ∙ found_there test es n rest
    ] refl is

-- where no number is found nothing is
none_there : (test : ℕ → Bool) (objects : List (ℕ × Data)) → find test (keys_of objects) ≡ None → lookup test objects ≡ None
none_there test [] is = refl
none_there test (e ∷ es) is =
    elim (test e.0) as (λ b. cond b (Some e.0) (find test (keys_of es)) ≡ None → cond b (Some e.1) (lookup test es) ≡ None) [
      | true ↦ λ one. absurd (let some : Some e.0 ≡ None = one in cc)
      | false ↦ λ none. none_there test es none
    ] is

same_found : (test : ℕ → Bool) (objects : List (ℕ × Data)) → IsSame objects (find test (keys_of objects)) (lookup test objects)
same_found test objects = elim (find test (keys_of objects)) as (λ o. find test (keys_of objects) ≡ o → IsSame objects o (lookup test objects)) [
  | None ↦ λ none. none_there test objects none
  | Some n ↦ λ found. found_there test objects n found
] refl

-- nothing is found of both alike
lacks_same : (test : ℕ → Bool) (objects : List (ℕ × Data)) → is_none (lookup test objects) ≡ is_none (find test (keys_of objects))
lacks_same test [] = refl
lacks_same test (e ∷ es) = elim (test e.0) as (λ b. is_none (cond b (Some e.1) (lookup test es)) ≡ is_none (cond b (Some e.0) (find test (keys_of es)))) [
  | true ↦ refl
  | false ↦ lacks_same test es
]

-- the objects of these numbers
abbrev pub at_numbers : List (ℕ × Data) → List ℕ → List Data
at_numbers objects numbers = filter_map (λ n. lookup (is_at (nat_cmp n)) objects) numbers

one_same : (objects : List (ℕ × Data)) (o : Option ℕ) (found : Option Data) (numbers : List ℕ) (list : List Data) → IsSame objects o found → at_numbers objects numbers ≡ list
    → at_numbers objects (cons_option o numbers) ≡ cons_option found list
one_same objects None found numbers list is rest = rest ∙ ap (λ (f : Option Data). cons_option f list) (sym is)
one_same objects (Some n) found numbers list is rest =
    ap (λ (l : List Data). cons_option (lookup (is_at (nat_cmp n)) objects) l) rest ∙ ap (λ (f : Option Data). cons_option f list) is

all_same : (letter : ℕ) (objects : List (ℕ × Data)) (ids : List (List ℕ))
    → at_numbers objects (filter_map (number_with letter (keys_of objects)) ids) ≡ filter_map (object_with letter objects) ids
all_same letter objects [] = refl
all_same letter objects (id ∷ ids) =
    one_same objects (number_with letter (keys_of objects) id) (object_with letter objects id) (filter_map (number_with letter (keys_of objects)) ids)
    (filter_map (object_with letter objects) ids) (same_found (λ (n : ℕ). bytes_eq (id_text letter n) id) objects) (all_same letter objects ids)

-- what is found is made of these
abbrev found_of : List Data → List (List ℕ) → Result FoundObjects MethodError
found_of list missing = Ok (record { list = list; missing = missing })

found_if : (many : Bool) (objects : List (ℕ × Data)) (asked : NumbersAsked) (list : List Data) → IsStrictlySortedBy nat_cmp (keys_of objects)
    → all_if many (record { numbers = keys_of objects; missing = [] }) ≡ Ok asked → list ≡ at_numbers objects asked.numbers
    → (if many then Err RequestTooLarge else found_of (values_of objects) []) ≡ found_of list asked.missing
found_if true objects asked list sorted is list_is = absurd (cc)
found_if false objects asked list sorted is list_is =
    let all : NumbersAsked = record { numbers = keys_of objects; missing = [] } in
    let same : all ≡ asked = cc in
    ap (λ (l : List Data). found_of l []) (sym (all_listed objects sorted) ∙ ap (λ (a : NumbersAsked). at_numbers objects a.numbers) same ∙ sym list_is)
    ∙ ap (λ (a : NumbersAsked). found_of list a.missing) same

-- the objects of the numbers that are asked are those that are found
pub found_by_numbers : (letter : ℕ) (objects : List (ℕ × Data)) (ids : Option (List (List ℕ))) (asked : NumbersAsked) (list : List Data)
    → IsStrictlySortedBy nat_cmp (keys_of objects) → numbers_asked letter (keys_of objects) ids ≡ Ok asked → list ≡ at_numbers objects asked.numbers
    → found_in letter objects ids ≡ Ok (record { list = list; missing = asked.missing })
found_by_numbers letter objects None asked list sorted is list_is =
    ap (λ (n : ℕ). let r : Result FoundObjects MethodError = if nat_lt 500 n then Err RequestTooLarge else found_of (values_of objects) [] in r)
    (sym (length-keys_of objects))
    ∙ found_if (nat_lt 500 (length (keys_of objects))) objects asked list sorted is list_is
found_by_numbers letter objects (Some ids) asked list sorted is list_is =
    let once = distinct_ids ids in
    let same : asked_with letter (keys_of objects) once ≡ asked = cc in
    let lacks : List ℕ → Bool = λ id. is_none (object_with letter objects id) in
    let missing : filter lacks once ≡ asked.missing =
    filter_agree lacks (λ (id : List ℕ). is_none (number_with letter (keys_of objects) id)) (λ id. lacks_same (λ (n : ℕ). bytes_eq (id_text letter n) id) objects) once
    ∙ ap (λ (a : NumbersAsked). a.missing) same in
    let listed : filter_map (object_with letter objects) once ≡ list =
    sym (all_same letter objects once) ∙ ap (λ (a : NumbersAsked). at_numbers objects a.numbers) same ∙ sym list_is in
    ap (λ (l : List Data). found_of l (filter lacks once)) listed ∙ ap (found_of list) missing

refused_if : (many : Bool) (asked : NumbersAsked) (found : FoundObjects) (e : MethodError) → all_if many asked ≡ Err e
    → (let r : Result FoundObjects MethodError = if many then Err RequestTooLarge else Ok found in r) ≡ Err e
refused_if true asked found e is = let same : RequestTooLarge ≡ e = cc in ap (λ (x : MethodError). let r : Result FoundObjects MethodError = Err x in r) same
refused_if false asked found e is = absurd (cc)

-- where the numbers are refused so is what is found
pub refused_by_numbers : (letter : ℕ) (objects : List (ℕ × Data)) (ids : Option (List (List ℕ))) (e : MethodError)
    → numbers_asked letter (keys_of objects) ids ≡ Err e → found_in letter objects ids ≡ Err e
refused_by_numbers letter objects None e is =
    ap (λ (n : ℕ). let r : Result FoundObjects MethodError = if nat_lt 500 n then Err RequestTooLarge else found_of (values_of objects) [] in r)
    (sym (length-keys_of objects))
    ∙ refused_if (nat_lt 500 (length (keys_of objects))) (record { numbers = keys_of objects; missing = [] }) (record { list = values_of objects; missing = [] }) e is
refused_by_numbers letter objects (Some ids) e is = absurd (cc)

-- ---- integers alone

abbrev pub AreWhole : List (ℕ × Data) → Type 0
AreWhole [] = Unit {0}
AreWhole (e ∷ es) = (has_float e.1 ≡ false) × AreWhole es

whole_values : (objects : List (ℕ × Data)) → AreWhole objects → items_have_float (items_of (values_of objects)) ≡ false
whole_values [] whole = refl
whole_values (e ∷ es) whole = rw (whole.0, whole_values es whole.1) refl

whole_found : (test : ℕ → Bool) (objects : List (ℕ × Data)) → AreWhole objects → IfSome (lookup test objects) (λ d. has_float d ≡ false)
whole_found test [] whole = tt
whole_found test (e ∷ es) whole = elim (test e.0) as (λ b. IfSome (cond b (Some e.1) (lookup test es)) (λ d. has_float d ≡ false)) [
  | true ↦ whole.0
  | false ↦ whole_found test es whole.1
]

whole_one : (o : Option Data) (rest : List Data) → IfSome o (λ d. has_float d ≡ false) → items_have_float (items_of rest) ≡ false
    → items_have_float (items_of (cons_option o rest)) ≡ false
whole_one None rest first whole = whole
whole_one (Some d) rest first whole = rw (first, whole) refl

whole_shown : (letter : ℕ) (objects : List (ℕ × Data)) (ids : List (List ℕ)) → AreWhole objects → items_have_float (items_of (filter_map (object_with letter objects) ids)) ≡ false
whole_shown letter objects [] whole = refl
whole_shown letter objects (id ∷ ids) whole =
    whole_one (object_with letter objects id) (filter_map (object_with letter objects) ids) (whole_found _ objects whole) (whole_shown letter objects ids whole)

whole_texts : (texts : List (List ℕ)) → items_have_float (items_of (map string texts)) ≡ false
whole_texts [] = refl
whole_texts (text ∷ texts) = whole_texts texts

whole_get : (state : List ℕ) (list missing : List Data) → items_have_float (items_of list) ≡ false → items_have_float (items_of missing) ≡ false
    → has_float (get_data state list missing) ≡ false
whole_get state list missing whole rest = rw (whole, rest) refl

whole_if : (b : Bool) (state : List ℕ) (list : List Data) (e : MethodError) → items_have_float (items_of list) ≡ false
    → IfOk (get_answer state (let r : Result FoundObjects MethodError = if b then Err e else Ok (record { list = list; missing = [] }) in r)) (λ d. has_float d ≡ false)
whole_if true state list e whole = tt
whole_if false state list e whole = whole_get state list [] whole refl

whole_answer : (letter : ℕ) (state : List ℕ) (objects : List (ℕ × Data)) (ids : Option (List (List ℕ))) → AreWhole objects
    → IfOk (get_answer state (found_in letter objects ids)) (λ d. has_float d ≡ false)
whole_answer letter state objects (Some ids) whole =
    whole_get state (filter_map (object_with letter objects) (distinct_ids ids)) (map string (filter (λ id. is_none (object_with letter objects id)) (distinct_ids ids)))
    (whole_shown letter objects (distinct_ids ids) whole) (whole_texts (filter (λ id. is_none (object_with letter objects id)) (distinct_ids ids)))
whole_answer letter state objects None whole = whole_if (nat_lt 500 (length objects)) state (values_of objects) RequestTooLarge (whole_values objects whole)

-- an answer over objects that have integers alone has them alone
pub whole_answered : {W : Type 0} (letter : ℕ) (state : List ℕ) (objects : W → List (ℕ × Data)) (asked : Result (GetAsked W) MethodError)
    → ((wanted : W) → AreWhole (objects wanted)) → IfOk (get_answered letter state objects asked) (λ d. has_float d ≡ false)
whole_answered letter state objects (Err e) whole = tt
whole_answered letter state objects (Ok asked) whole = whole_answer letter state (objects asked.wanted) asked.ids (whole asked.wanted)

-- so does a value that is what was meant
pub whole_from : (r : Result Value MethodError) (meant : Result Data MethodError) → Agrees Memory view r meant → IfOk meant (λ d. has_float d ≡ false)
    → IfOk r (λ value. has_float (view value) ≡ false)
whole_from (Err e) meant is whole = tt
whole_from (Ok value) meant is whole = let P : Result Data MethodError → Type 0 = λ m. IfOk m (λ d. has_float d ≡ false) in subst P is whole
