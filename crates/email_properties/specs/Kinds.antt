-- Arguments that have a default and can't be null (RFC 8620 section 3.6.2, RFC 8621 section 4.2).
use Rattle.std.specs.Prelude.{ℕ, Bool, false, List, ℤ, pos, negsuc, Option, Some, None, Result, Ok, Err, ok_or}
use Rattle.serde_json.specs.Data.{Data, null}
use Rattle.serde_json.specs.Find.{get, as_bool}
use Rattle.jmap_arguments.specs.Arguments.{texts_at, whole_at}
use Rattle.jmap_arguments.specs.declared.method_error.MethodError.{MethodError}
use Rattle.jmap_arguments.specs.declared.method_error.MethodError.TheVariants.{InvalidArguments}

abbrev pub null_check : Option Data → Result (Unit {0}) MethodError
null_check None = Ok tt
null_check (Some null) = Err InvalidArguments
null_check (Some d) = Ok tt

module _ {A : Type 0} where
  abbrev pub after_check : Result (Unit {0}) MethodError → Result A MethodError → Result A MethodError
  after_check (Ok u) read = read
  after_check (Err e) read = Err e

-- a list of texts, or none where it isn't there
abbrev pub texts_given : List ℕ → Data → Result (Option (List (List ℕ))) MethodError
texts_given key d = after_check (null_check (get key d)) (texts_at key d)

-- a Boolean, which is false where it isn't there
abbrev pub flag_of : Option Data → Result Bool MethodError
flag_of None = Ok false
flag_of (Some d) = ok_or (as_bool d) InvalidArguments

abbrev pub flag_at : List ℕ → Data → Result Bool MethodError
flag_at key d = flag_of (get key d)

-- the natural number that an integer of 0 or more is
abbrev pub at_least_zero : ℤ → Option ℕ
at_least_zero (pos n) = Some n
at_least_zero (negsuc n) = None

-- an integer of 0 or more, which is 0 where it isn't there
abbrev pub natural_from : Result (Option ℤ) MethodError → Result ℕ MethodError
natural_from (Ok None) = Ok 0
natural_from (Ok (Some z)) = ok_or (at_least_zero z) InvalidArguments
natural_from (Err e) = Err e

abbrev pub natural_at : List ℕ → Data → Result ℕ MethodError
natural_at key d = after_check (null_check (get key d)) (natural_from (whole_at key d))
