-- What is found in the last touches of a type is what is answered over each history that they are the last of.
use Rattle.std.proofs.Common.{◌≡◌, ◌⊎◌, inl, inr, ℕ, List, length, Bool, true, false, if◌then◌else◌, Result, Ok, Err, refl, sym, ap, ◌∙◌, subst}
use Rattle.std.specs.Result.{IfOk}
use Rattle.serde_json.specs.Data.{Data}
use Rattle.serde_json.specs.View.{view}
use Rattle.serde_json.specs.declared.value.Value.{Value}
use Rattle.change_list.specs.History.{IsHistory, entries_of}
use Rattle.change_list.specs.Kept.{Kept, IsOf}
use Rattle.change_list.specs.declared.entries.Entry.{Entry}
use Rattle.change_list.proofs.HistoryLaws.{history_fits}
use Rattle.jmap_arguments.specs.Outcome.{Agrees, Meets}
use Rattle.jmap_arguments.specs.State.{state_text}
use Rattle.jmap_arguments.specs.declared.method_error.MethodError.{MethodError}
use Rattle.jmap_arguments.specs.declared.method_error.MethodError.TheVariants.{Memory, TooManyChanges}
use Rattle.jmap_arguments.specs.declared.state.State.{State}
use Rattle.served_maps.specs.Past.{Past}
use Rattle.query_arguments.specs.Asked.{QueryChangesMeant}
use Rattle.served_types.specs.States.{IsPlaceOf, NamesNone}
use Rattle.query_changes.specs.Changes.{count_told, is_no_more_than, found_data, FoundChanges, AnswersQueryChanges, NamesNoState, TooMany, Answered, RefusedOr}
use Rattle.query_changes.specs.reading.Found.{FindsNone, TouchedSince, told_or_refused}

abbrev Answer : Type 0
Answer = Result Data MethodError

-- what is given is an answer where what is meant is one
agreed : (P : Answer → Type 0) (r : Result Value MethodError) (meant : Answer) → Agrees Memory view r meant → P meant → Meets Memory view r P
agreed P (Ok value) meant is p = subst P is p
agreed P (Err e) meant (inl memory) p = inl memory
agreed P (Err e) meant (inr is) p = inr (subst P is p)

module _ {C S V : Type 0} (letter epoch now : ℕ) (k : Kept) (p : Past V) (calculable : QueryChangesMeant C S → Bool) (IsList : QueryChangesMeant C S → List ℕ → Type 0)
    (q : QueryChangesMeant C S) (same : epoch ≡ now) (kept : IsOf k (entries_of p.touches)) (history : IsHistory p.touches) where
  abbrev entries : List Entry
  entries = entries_of p.touches

  abbrev IsAnswer : Answer → Type 0
  IsAnswer r = AnswersQueryChanges letter now entries calculable IsList q r

  none_of : NamesNone epoch k.place q.since → NamesNone now (length entries) q.since
  none_of none =
      let P : ℕ → Type 0 = λ n. NamesNone epoch n q.since in
      let E : ℕ → Type 0 = λ n. NamesNone n (length entries) q.since in
      subst E same (subst P kept.place none)

  -- no state is named
  pub names_nothing : (e : MethodError) → (e ≡ Memory) ⊎ FindsNone epoch k q.since e → (e ≡ Memory) ⊎ IsAnswer (Err e)
  names_nothing e (inl memory) = inl memory
  names_nothing e (inr nothing) =
      let P : MethodError → Type 0 = λ x. IsAnswer (Err x) in
      inr (subst P (sym nothing.error) (NamesNoState (none_of nothing.none)))

  place_of : (place : ℕ) → IsPlaceOf epoch k.place q.since place → IsPlaceOf now (length entries) q.since place
  place_of place named =
      let P : ℕ → Type 0 = λ n. IsPlaceOf epoch n q.since place in
      let E : ℕ → Type 0 = λ n. IsPlaceOf n (length entries) q.since place in
      subst E same (subst P kept.place named)

  answered : (f : FoundChanges now entries IsList q) → calculable q ≡ true → (b : Bool) → is_no_more_than q.most (count_told f.touched f.list) ≡ b
      → IsAnswer (if b then Ok (found_data letter now entries q f.touched f.list) else Err TooManyChanges)
  answered f can true is = Answered f can is
  answered f can false is = TooMany f can is

  module _ (last : State) (touched : List (ℕ × Bool)) (list : List ℕ) (since : TouchedSince epoch k q.since last touched) (is_list : IsList q list) where
    abbrev found : FoundChanges now entries IsList q
    found = record {
      place = since.place;
      touched = touched;
      list = list;
      named = place_of since.place since.named;
      are_touched = since.are_touched entries kept (history_fits p.touches history);
      is_list = is_list;
    }

    abbrev state_at : ℕ → ℕ → State
    state_at e n = record { epoch = e; place = n }

    -- the last state is the history's
    last_is : last ≡ state_at now (length entries)
    last_is = since.is_last ∙ ap (λ (e : ℕ). state_at e k.place) same ∙ ap (λ (n : ℕ). state_at now n) kept.place

    -- what was touched is told, or it is too much
    pub told : (r : Result Value MethodError) → calculable q ≡ true
        → Agrees Memory view r (told_or_refused letter q.since (state_text last) q.most q.counts touched list) → Meets Memory view r IsAnswer
    told r can agrees =
        let P : State → Type 0 = λ s. IsAnswer (told_or_refused letter q.since (state_text s) q.most q.counts touched list) in
        agreed IsAnswer r (told_or_refused letter q.since (state_text last) q.most q.counts touched list) agrees
        (subst P (sym last_is) (answered found can (is_no_more_than q.most (count_told touched list)) refl))

-- ---- the arguments

module _ {Q : Type 0} (IsAnswer : Q → Answer → Type 0) (asked : Result Q MethodError) where
  -- they are refused
  pub refused : (e : MethodError) → (e ≡ Memory) ⊎ (asked ≡ Err e) → (e ≡ Memory) ⊎ RefusedOr IsAnswer asked (Err e)
  refused e (inl memory) = inl memory
  refused e (inr is) =
      let P : Result Q MethodError → Type 0 = λ a. RefusedOr IsAnswer a (Err e) in
      let here : P (Err e) = refl in
      inr (subst P (sym is) here)

  -- they ask this
  pub as_asked : (q : Q) (r : Result Value MethodError) → asked ≡ Ok q → Meets Memory view r (IsAnswer q) → Meets Memory view r (RefusedOr IsAnswer asked)
  as_asked q r is answers =
      let P : Result Q MethodError → Type 0 = λ a. Meets Memory view r (RefusedOr IsAnswer a) in
      subst P (sym is) answers

-- ---- each history

-- what holds of a value for each x holds for each x of the value
pub under : {X Y E : Type 0} (H : X → Type 0) (P : X → Y → Type 0) (r : Result Y E) → ((x : X) → H x → IfOk r (P x)) → IfOk r (λ y. (x : X) → H x → P x y)
under H P (Ok y) each = each
under H P (Err e) each = tt
