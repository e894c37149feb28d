-- What was touched, as it is found in the last touches of a type, and what is told of it.
use Rattle.std.specs.Prelude.{◌≡◌, ℕ, Bool, List, Option, if◌then◌else◌, Result, Ok, Err}
use Rattle.serde_json.specs.Data.{Data}
use Rattle.change_list.specs.Kept.{Kept, IsOf}
use Rattle.change_list.specs.TouchedIds.{AreTouched}
use Rattle.change_list.specs.Touches.{AreTouches}
use Rattle.change_list.specs.declared.entries.Entry.{Entry}
use Rattle.jmap_arguments.specs.declared.method_error.MethodError.{MethodError}
use Rattle.jmap_arguments.specs.declared.method_error.MethodError.TheVariants.{CannotCalculateChanges, TooManyChanges}
use Rattle.jmap_arguments.specs.declared.state.State.{State}
use Rattle.served_types.specs.States.{IsPlaceOf, NamesNone}
use Rattle.query_changes.specs.Changes.{count_told, is_no_more_than, query_changes_data}

-- the place that is named, and what was touched after it in each history that the touches are the last of, up to its last state
pub record TouchedSince (epoch : ℕ) (k : Kept) (since : List ℕ) (last : State) (touched : List (ℕ × Bool)) : Type 0 where
  pub place : ℕ
  pub named : IsPlaceOf epoch k.place since place
  pub is_last : last ≡ record { epoch = epoch; place = k.place }
  pub are_touched : (h : List Entry) → IsOf k h → AreTouches h → AreTouched h place touched

-- no place is named whose later touches are kept
pub record FindsNone (epoch : ℕ) (k : Kept) (since : List ℕ) (e : MethodError) : Type 0 where
  pub error : e ≡ CannotCalculateChanges
  pub none : NamesNone epoch k.place since

-- what is told, of the state that is named and the one now, where that isn't too much
abbrev pub told_or_refused : ℕ → List ℕ → List ℕ → Option ℕ → Bool → List (ℕ × Bool) → List ℕ → Result Data MethodError
told_or_refused letter named now most counts touched list =
    if is_no_more_than most (count_told touched list) then Ok (query_changes_data letter named now counts touched list) else Err TooManyChanges
