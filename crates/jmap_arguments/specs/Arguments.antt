-- The arguments that methods share, each with the refusal of a wrong one (RFC 8620 sections 1.2, 3.6.2, 5.1 and 5.2).
use Rattle.std.specs.Prelude.{ℕ, zero, suc, Bool, ◌&&◌, List, [], ◌∷◌, ℤ, pos, negsuc, neg_ℤ, int_le, nat_lt, if◌then◌else◌, bytes_eq, codes}
use Rattle.std.specs.Prelude.{Option, Some, None, option_map, option_and_then, Result, Ok, Err, ok_or}
use Rattle.std.specs.List.{list_any}
use Rattle.serde_json.specs.Data.{Num, unsigned, negative, float, Data, null, number, array, Items, no_items, item}
use Rattle.serde_json.specs.Find.{get, as_str}
use Rattle.jmap_arguments.specs.declared.arguments.TheConstants.{MAX_OBJECTS_IN_GET, MAX_WHOLE_NUMBER}
use Rattle.jmap_arguments.specs.declared.method_error.MethodError.{MethodError}
use Rattle.jmap_arguments.specs.declared.method_error.MethodError.TheVariants.{InvalidArguments, AccountNotFound, RequestTooLarge}

-- ---- texts

-- the texts that a list has, if it has no other item
abbrev pub texts_in : Items → Option (List (List ℕ))
texts_in no_items = Some []
texts_in (item d ds) = option_and_then (λ text. option_map (λ texts. text ∷ texts) (texts_in ds)) (as_str d)

-- whether one of the texts is this one
abbrev pub is_among : List ℕ → List (List ℕ) → Bool
is_among name names = list_any (λ n. bytes_eq n name) names

-- a text that has to be there
abbrev pub text_at : List ℕ → Data → Result (List ℕ) MethodError
text_at key d = ok_or (option_and_then as_str (get key d)) InvalidArguments

-- the id of the one account
abbrev pub account_id : List ℕ
account_id = codes "a1"

-- the account: there is one
abbrev pub account_check : List ℕ → Result (Unit {0}) MethodError
account_check account = if bytes_eq account account_id then Ok tt else Err AccountNotFound

-- no more than `MAX_OBJECTS_IN_GET` are asked for
abbrev pub count_check : ℕ → Result (Unit {0}) MethodError
count_check count = if nat_lt MAX_OBJECTS_IN_GET count then Err RequestTooLarge else Ok tt

-- a list of texts, or null, which is also what an argument that isn't there is
abbrev pub texts_of : Option Data → Result (Option (List (List ℕ))) MethodError
texts_of None = Ok None
texts_of (Some null) = Ok None
texts_of (Some (array ds)) = ok_or (option_map Some (texts_in ds)) InvalidArguments
texts_of (Some d) = Err InvalidArguments

abbrev pub texts_at : List ℕ → Data → Result (Option (List (List ℕ))) MethodError
texts_at key d = texts_of (get key d)

-- ---- numbers

-- no further from 0 than `MAX_WHOLE_NUMBER`
abbrev pub is_within : ℤ → Bool
is_within z = int_le (neg_ℤ MAX_WHOLE_NUMBER) z && int_le z MAX_WHOLE_NUMBER

-- an integer that JSON's readers keep exactly
abbrev pub whole_in : Num → Option ℤ
whole_in (unsigned n) = if is_within (pos n) then Some (pos n) else None
whole_in (negative z) = if is_within z then Some z else None
whole_in (float x) = None

-- such an integer, or null, which is also what an argument that isn't there is
abbrev pub whole_of : Option Data → Result (Option ℤ) MethodError
whole_of None = Ok None
whole_of (Some null) = Ok None
whole_of (Some (number n)) = ok_or (option_map Some (whole_in n)) InvalidArguments
whole_of (Some d) = Err InvalidArguments

abbrev pub whole_at : List ℕ → Data → Result (Option ℤ) MethodError
whole_at key d = whole_of (get key d)

-- the natural number that an integer of 1 or more is
abbrev pub at_least_one : ℤ → Option ℕ
at_least_one (pos zero) = None
at_least_one (pos (suc n)) = Some (suc n)
at_least_one (negsuc n) = None

-- the most that may be listed: at least 1 where it is given
abbrev pub most_from : Result (Option ℤ) MethodError → Result (Option ℕ) MethodError
most_from (Ok None) = Ok None
most_from (Ok (Some z)) = ok_or (option_map Some (at_least_one z)) InvalidArguments
most_from (Err e) = Err e

abbrev pub most_at : List ℕ → Data → Result (Option ℕ) MethodError
most_at key d = most_from (whole_at key d)
