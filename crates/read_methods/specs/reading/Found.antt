-- What changed, as it is found in the last touches of a type.
use Rattle.std.specs.Prelude.{◌≡◌, ℕ, List, Result, Ok, Err}
use Rattle.serde_json.specs.Data.{Data}
use Rattle.change_list.specs.Changes.{IsChanges}
use Rattle.change_list.specs.Kept.{Kept, IsOf}
use Rattle.change_list.specs.Touches.{AreTouches}
use Rattle.change_list.specs.declared.answer.Changes.{Changes}
use Rattle.change_list.specs.declared.entries.Entry.{Entry}
use Rattle.jmap_arguments.specs.declared.method_error.MethodError.{MethodError}
use Rattle.jmap_arguments.specs.declared.method_error.MethodError.TheVariants.{CannotCalculateChanges}
use Rattle.read_methods.specs.Changes.{ChangesAsked, changes_asked, changes_data, Further}
use Rattle.served_types.specs.States.{IsPlaceOf, NamesNone}

-- the place that is named, and what changed after it in each history that the touches are the last of
pub record FindsChanges (epoch : ℕ) (k : Kept) (asked : ChangesAsked) (c : Changes) : Type 0 where
  pub place : ℕ
  pub named : IsPlaceOf epoch k.place asked.since place
  pub changes : (h : List Entry) → IsOf k h → AreTouches h → IsChanges h place asked.most c

-- the state that was named, and what changed since
pub record FoundSince : Type 0 where
  pub since : List ℕ
  pub changes : Changes

pub data Finds (epoch : ℕ) (k : Kept) (d : Data) : Result FoundSince MethodError → Type 0 where
  Refuses : (e : MethodError) → changes_asked d ≡ Err e → Finds epoch k d (Err e)
  NamesNothing : (asked : ChangesAsked) → changes_asked d ≡ Ok asked → NamesNone epoch k.place asked.since → Finds epoch k d (Err CannotCalculateChanges)
  InKept : (asked : ChangesAsked) (c : Changes) → changes_asked d ≡ Ok asked → FindsChanges epoch k asked c
      → Finds epoch k d (Ok (record { since = asked.since; changes = c }))

-- what is answered to it
abbrev pub reply_of : ℕ → ℕ → ℕ → Further → Result FoundSince MethodError → Result Data MethodError
reply_of letter epoch last further (Ok found) = Ok (changes_data letter epoch last found.since further found.changes)
reply_of letter epoch last further (Err e) = Err e

-- some finding is answered so
pub record AnswersFound (letter epoch : ℕ) (k : Kept) (further : Further) (d : Data) (result : Result Data MethodError) : Type 0 where
  pub found : Result FoundSince MethodError
  pub finds : Finds epoch k d found
  pub reply : result ≡ reply_of letter epoch k.place further found
