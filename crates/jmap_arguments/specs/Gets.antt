-- What a /get asks and answers (RFC 8620 section 5.1), of objects by number.
use Rattle.std.specs.Prelude.{ℕ, ◌==◌, nat_lt, Bool, not, if◌then◌else◌, List, [], ◌∷◌, map, length, bytes_eq, codes}
use Rattle.std.specs.Prelude.{is_none, Option, Some, None, Result, Ok, Err}
use Rattle.std.specs.List.{filter, filter_map, find, list_any}
use Rattle.std.specs.Map.{lookup, values_of}
use Rattle.serde_json.specs.Data.{Data, string, array, object, no_members, member}
use Rattle.serde_json.specs.View.{items_of}
use Rattle.jmap_arguments.specs.Arguments.{text_at, texts_at, account_id, account_check, count_check}
use Rattle.jmap_arguments.specs.Ids.{id_text}
use Rattle.jmap_arguments.specs.declared.arguments.TheConstants.{MAX_OBJECTS_IN_GET}
use Rattle.jmap_arguments.specs.declared.method_error.MethodError.{MethodError}
use Rattle.jmap_arguments.specs.declared.method_error.MethodError.TheVariants.{RequestTooLarge}

-- ---- what is asked, or the first refusal: the arguments' kinds, the account, the count of ids

-- what is wanted of each object is of the type's own kind
pub record GetAsked (W : Type 0) : Type 0 where
  pub ids : Option (List (List ℕ))
  pub wanted : W

abbrev pub count_of_ids : Option (List (List ℕ)) → ℕ
count_of_ids None = 0
count_of_ids (Some ids) = length ids

module _ {W : Type 0} where
  abbrev pub admitted_get : Result (Unit {0}) MethodError → Result (Unit {0}) MethodError → GetAsked W → Result (GetAsked W) MethodError
  admitted_get (Ok account) (Ok count) asked = Ok asked
  admitted_get (Ok account) (Err e) asked = Err e
  admitted_get (Err e) count asked = Err e

  abbrev pub get_from : Result (List ℕ) MethodError → Result (Option (List (List ℕ))) MethodError → Result W MethodError → Result (GetAsked W) MethodError
  get_from (Ok account) (Ok ids) (Ok wanted) =
      admitted_get (account_check account) (count_check (count_of_ids ids)) (record { ids = ids; wanted = wanted })
  get_from (Ok account) (Ok ids) (Err e) = Err e
  get_from (Ok account) (Err e) wanted = Err e
  get_from (Err e) ids wanted = Err e

  -- where what is wanted was read from the same arguments
  abbrev pub get_asked : Result W MethodError → Data → Result (GetAsked W) MethodError
  get_asked wanted d = get_from (text_at (codes "accountId") d) (texts_at (codes "ids") d) wanted

-- ---- which objects are asked, of objects with these numbers

-- each id once, where it stands first
abbrev pub distinct_ids : List (List ℕ) → List (List ℕ)
distinct_ids [] = []
distinct_ids (id ∷ ids) = id ∷ filter (λ other. not (bytes_eq id other)) (distinct_ids ids)

-- whether one of the numbers is this one
abbrev pub is_number : List ℕ → ℕ → Bool
is_number numbers n = list_any (λ k. k == n) numbers

-- the number with the id, where it is one of these
abbrev pub number_with : ℕ → List ℕ → List ℕ → Option ℕ
number_with letter numbers id = find (λ n. bytes_eq (id_text letter n) id) numbers

-- the numbers of the objects that are asked, and the ids of which there is none
pub record NumbersAsked : Type 0 where
  pub numbers : List ℕ
  pub missing : List (List ℕ)

abbrev pub asked_with : ℕ → List ℕ → List (List ℕ) → NumbersAsked
asked_with letter numbers ids = record {
  numbers = filter_map (number_with letter numbers) ids;
  missing = filter (λ id. is_none (number_with letter numbers id)) ids;
}

-- Asked by ids, those that are there, in the order asked; asked by null, all, where they are no more than `MAX_OBJECTS_IN_GET`.
abbrev pub numbers_asked : ℕ → List ℕ → Option (List (List ℕ)) → Result NumbersAsked MethodError
numbers_asked letter numbers (Some ids) = Ok (asked_with letter numbers (distinct_ids ids))
numbers_asked letter numbers None =
    if nat_lt MAX_OBJECTS_IN_GET (length numbers) then Err RequestTooLarge else Ok (record { numbers = numbers; missing = [] })

-- ---- the objects that are asked, where each is known by its number

-- rows by number as objects
abbrev pub shown_as : {V : Type 0} → (ℕ × V → Data) → List (ℕ × V) → List (ℕ × Data)
shown_as {V} show rows = map {B = ℕ × Data} (λ (e : ℕ × V). (e.0, show e)) rows

-- the object with the id
abbrev pub object_with : ℕ → List (ℕ × Data) → List ℕ → Option Data
object_with letter objects id = lookup (λ n. bytes_eq (id_text letter n) id) objects

-- the objects that are shown, and the ids of which there is none
pub record FoundObjects : Type 0 where
  pub list : List Data
  pub missing : List (List ℕ)

abbrev pub found_with : ℕ → List (ℕ × Data) → List (List ℕ) → FoundObjects
found_with letter objects ids = record {
  list = filter_map (object_with letter objects) ids;
  missing = filter (λ id. is_none (object_with letter objects id)) ids;
}

-- Asked by ids, those that are there, in the order asked; asked by null, all, where they are no more than `MAX_OBJECTS_IN_GET`.
abbrev pub found_in : ℕ → List (ℕ × Data) → Option (List (List ℕ)) → Result FoundObjects MethodError
found_in letter objects (Some ids) = Ok (found_with letter objects (distinct_ids ids))
found_in letter objects None =
    if nat_lt MAX_OBJECTS_IN_GET (length objects) then Err RequestTooLarge else Ok (record { list = values_of objects; missing = [] })

-- ---- the answer

abbrev pub get_data : List ℕ → List Data → List Data → Data
get_data state list missing = object
    (member (codes "accountId") (string account_id)
    (member (codes "list") (array (items_of list))
    (member (codes "notFound") (array (items_of missing))
    (member (codes "state") (string state)
    no_members))))

abbrev pub get_answer : List ℕ → Result FoundObjects MethodError → Result Data MethodError
get_answer state (Ok found) = Ok (get_data state found.list (map string found.missing))
get_answer state (Err e) = Err e

module _ {W : Type 0} where
  -- of the objects of a type, with what is wanted of each
  abbrev pub get_answered : ℕ → List ℕ → (W → List (ℕ × Data)) → Result (GetAsked W) MethodError → Result Data MethodError
  get_answered letter state objects (Ok asked) = get_answer state (found_in letter (objects asked.wanted) asked.ids)
  get_answered letter state objects (Err e) = Err e
