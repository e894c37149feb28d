-- Which part of a list is asked (RFC 8620 section 5.5).
use Rattle.std.specs.Prelude.{ℕ, ℤ, pos, List, codes, Option, Some, None, option_map, Result, Ok, Err, ok_or}
use Rattle.serde_json.specs.Data.{Data, null}
use Rattle.serde_json.specs.Find.{get, as_str}
use Rattle.jmap_arguments.specs.declared.method_error.MethodError.{MethodError}
use Rattle.jmap_arguments.specs.declared.method_error.MethodError.TheVariants.{InvalidArguments}
use Rattle.query_arguments.specs.Values.{integer_of, natural_of}
use Rattle.query_arguments.specs.declared.asked.AskedPart.{AskedPart}

module _ {A B : Type 0} where
  -- one after the other: the first refusal counts
  abbrev pub then_asked : Result A MethodError → (A → Result B MethodError) → Result B MethodError
  then_asked (Ok a) more = more a
  then_asked (Err e) more = Err e

-- an integer, 0 where it isn't there
abbrev pub integer_or_zero : Option Data → Result ℤ MethodError
integer_or_zero None = Ok (pos 0)
integer_or_zero (Some d) = ok_or (integer_of d) InvalidArguments

abbrev pub integer_at : List ℕ → Data → Result ℤ MethodError
integer_at key d = integer_or_zero (get key d)

-- null, which is also what an argument that isn't there is, or of this kind
abbrev pub or_null : {A : Type 0} → (Data → Option A) → Option Data → Result (Option A) MethodError
or_null kind None = Ok None
or_null kind (Some null) = Ok None
or_null kind (Some d) = ok_or (option_map Some (kind d)) InvalidArguments

abbrev pub limit_at : Data → Result (Option ℕ) MethodError
limit_at d = or_null natural_of (get (codes "limit") d)

abbrev pub anchor_at : Data → Result (Option (List ℕ)) MethodError
anchor_at d = or_null as_str (get (codes "anchor") d)

abbrev pub part_asked : Data → Result AskedPart MethodError
part_asked d =
    then_asked (integer_at (codes "position") d) (λ position.
    then_asked (anchor_at d) (λ anchor.
    then_asked (integer_at (codes "anchorOffset") d) (λ offset.
    then_asked (limit_at d) (λ limit.
    Ok (record { position = position; anchor = anchor; offset = offset; limit = limit })))))
