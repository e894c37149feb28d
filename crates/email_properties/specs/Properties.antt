-- Lists of properties by their names.
use Rattle.std.specs.Prelude.{ℕ, List, [], ◌∷◌, Option, Some, None, option_map, option_and_then, Result, Ok, Err, ok_or}
use Rattle.jmap_arguments.specs.Gets.{distinct_ids}
use Rattle.jmap_arguments.specs.declared.method_error.MethodError.{MethodError}
use Rattle.jmap_arguments.specs.declared.method_error.MethodError.TheVariants.{InvalidArguments}

module _ {P : Type 0} where
  -- what each of the texts is read as, in their order, where each can be read
  abbrev pub all_read : (List ℕ → Option P) → List (List ℕ) → Option (List P)
  all_read property_in [] = Some []
  all_read property_in (t ∷ ts) = option_and_then (λ p. option_map (λ ps. p ∷ ps) (all_read property_in ts)) (property_in t)

  -- the defaults where none are named; else each name, which is that of a property, once
  abbrev pub those_asked : (List ℕ → Option P) → List P → Result (Option (List (List ℕ))) MethodError → Result (List P) MethodError
  those_asked property_in defaults (Ok None) = Ok defaults
  those_asked property_in defaults (Ok (Some names)) = ok_or (all_read property_in (distinct_ids names)) InvalidArguments
  those_asked property_in defaults (Err e) = Err e
