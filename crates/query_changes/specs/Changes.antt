-- What a queryChanges answers (RFC 8620 section 5.6): ids to take out of a list, and ids to put into it, each at its index.
use Rattle.std.specs.Prelude.{◌≡◌, ℕ, ◌+◌, nat_le, Bool, true, false, List, length, map, filter, codes, Option, Some, None, Result, Ok, Err}
use Rattle.serde_json.specs.Data.{unsigned, Data, array, number, string, object, Members, no_members, member}
use Rattle.serde_json.specs.View.{items_of}
use Rattle.change_list.specs.TouchedIds.{AreTouched}
use Rattle.change_list.specs.declared.entries.Entry.{Entry}
use Rattle.jmap_arguments.specs.Arguments.{account_id}
use Rattle.jmap_arguments.specs.Ids.{id_data, id_list}
use Rattle.jmap_arguments.specs.State.{state_text}
use Rattle.jmap_arguments.specs.declared.method_error.MethodError.{MethodError}
use Rattle.jmap_arguments.specs.declared.method_error.MethodError.TheVariants.{CannotCalculateChanges, TooManyChanges}
use Rattle.query_arguments.specs.Asked.{QueryChangesMeant}
use Rattle.query_core.specs.Answers.{total_if}
use Rattle.query_lists.specs.Splices.{added_in}
use Rattle.served_types.specs.States.{IsPlaceOf, NamesNone, newest_place}

-- ---- which ids are told, of those that were touched, each with whether it was there

abbrev pub ids_of : List (ℕ × Bool) → List ℕ
ids_of touched = map (λ (t : ℕ × Bool). t.0) touched

-- to take out are those that were there
abbrev pub were_there : List (ℕ × Bool) → List ℕ
were_there touched = ids_of (filter (λ (t : ℕ × Bool). t.1) touched)

-- to put in are those that are in the list, each with its index
abbrev pub now_in : List ℕ → List (ℕ × Bool) → List (ℕ × ℕ)
now_in list touched = added_in (ids_of touched) list

-- how many are told
abbrev pub count_told : List (ℕ × Bool) → List ℕ → ℕ
count_told touched list = length (were_there touched) + length (now_in list touched)

-- no more than is asked
abbrev pub is_no_more_than : Option ℕ → ℕ → Bool
is_no_more_than None count = true
is_no_more_than (Some most) count = nat_le count most

-- ---- the answer

abbrev pub added_item : ℕ → ℕ × ℕ → Data
added_item letter e = object (member (codes "id") (id_data letter e.1) (member (codes "index") (number (unsigned e.0)) no_members))

abbrev pub added_data : ℕ → List (ℕ × ℕ) → Data
added_data letter added = array (items_of (map (added_item letter) added))

-- of the state that was named and the one that there is now
abbrev pub told_members : ℕ → List ℕ → List ℕ → List ℕ → List (ℕ × ℕ) → Members → Members
told_members letter named now removed added further =
    member (codes "accountId") (string account_id)
    (member (codes "added") (added_data letter added)
    (member (codes "newQueryState") (string now)
    (member (codes "oldQueryState") (string named)
    (member (codes "removed") (id_list letter removed)
    further))))

abbrev pub query_changes_data : ℕ → List ℕ → List ℕ → Bool → List (ℕ × Bool) → List ℕ → Data
query_changes_data letter named now counts touched list =
    object (told_members letter named now (were_there touched) (now_in list touched) (total_if counts (length list)))

-- ---- to what is asked, over the touches of a type

module _ {C S : Type 0} where
  -- the place that is named, the ids touched after it, and the list as it is now
  pub record FoundChanges (epoch : ℕ) (h : List Entry) (IsList : QueryChangesMeant C S → List ℕ → Type 0) (q : QueryChangesMeant C S) : Type 0 where
    pub place : ℕ
    pub touched : List (ℕ × Bool)
    pub list : List ℕ
    pub named : IsPlaceOf epoch (newest_place h) q.since place
    pub are_touched : AreTouched h place touched
    pub is_list : IsList q list

  abbrev pub found_data : ℕ → ℕ → List Entry → QueryChangesMeant C S → List (ℕ × Bool) → List ℕ → Data
  found_data letter epoch h q touched list =
      query_changes_data letter q.since (state_text (record { epoch = epoch; place = newest_place h })) q.counts touched list

  -- The query reads more than each record, or the text names no state whose changes are kept: neither can be calculated. Or more ids would be told
  -- than is asked; or they are told.
  pub data AnswersQueryChanges (letter epoch : ℕ) (h : List Entry) (calculable : QueryChangesMeant C S → Bool)
      (IsList : QueryChangesMeant C S → List ℕ → Type 0) (q : QueryChangesMeant C S) : Result Data MethodError → Type 0 where
    ReadsMore : calculable q ≡ false → AnswersQueryChanges letter epoch h calculable IsList q (Err CannotCalculateChanges)
    NamesNoState : NamesNone epoch (newest_place h) q.since → AnswersQueryChanges letter epoch h calculable IsList q (Err CannotCalculateChanges)
    TooMany : (f : FoundChanges epoch h IsList q) → calculable q ≡ true → is_no_more_than q.most (count_told f.touched f.list) ≡ false
        → AnswersQueryChanges letter epoch h calculable IsList q (Err TooManyChanges)
    Answered : (f : FoundChanges epoch h IsList q) → calculable q ≡ true → is_no_more_than q.most (count_told f.touched f.list) ≡ true
        → AnswersQueryChanges letter epoch h calculable IsList q (Ok (found_data letter epoch h q f.touched f.list))

-- a refusal by the arguments; or what they ask is answered so
abbrev pub RefusedOr : {Q : Type 0} → (Q → Result Data MethodError → Type 0) → Result Q MethodError → Result Data MethodError → Type 0
RefusedOr IsAnswer (Ok q) r = IsAnswer q r
RefusedOr IsAnswer (Err e) r = r ≡ Err e
