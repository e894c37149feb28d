-- What is answered of the list that is asked is what a query answers; and it has integers alone.
use Rattle.std.proofs.Common.{◌≡◌, ◌⊎◌, inl, inr, ℕ, List, [], ◌∷◌, map, Bool, true, false, Option, Some}
use Rattle.std.proofs.Common.{None, Result, Ok, Err, IfOk, length, refl, sym, ap, subst, ◌∙◌, ok_or, option_map, codes}
use Rattle.serde_json.specs.Data.{Data, Members, no_members, member}
use Rattle.serde_json.specs.View.{items_of, view}
use Rattle.serde_json.specs.Written.{has_float, items_have_float, members_have_float}
use Rattle.serde_json.specs.declared.value.Value.{Value}
use Rattle.jmap_arguments.specs.Ids.{id_data, id_list}
use Rattle.jmap_arguments.specs.Outcome.{Agrees, Meets}
use Rattle.jmap_arguments.specs.declared.method_error.MethodError.{MethodError}
use Rattle.jmap_arguments.specs.declared.method_error.MethodError.TheVariants.{AnchorNotFound, Memory}
use Rattle.change_list.specs.Kept.{Kept}
use Rattle.jmap_arguments.specs.State.{state_text}
use Rattle.served_maps.specs.Past.{Past, StandsFor}
use Rattle.mail_state.specs.History.{MailHistory}
use Rattle.served_types.specs.States.{type_state}
use Rattle.change_list.proofs.HistoryLaws.{length-entries_from}
use Rattle.query_lists.specs.Windows.{WindowPart}
use Rattle.query_arguments.specs.Asked.{QueryMeant}
use Rattle.query_arguments.specs.declared.asked.AskedPart.{AskedPart}
use Rattle.query_core.specs.Answers.{AnswersQuery, Answered, NoAnchor, Refused, part_of, query_data, total_if}
use Rattle.query_core.specs.reading.ListAnswers.{list_answer}

module _ {C S : Type 0} (letter : ℕ) (state : List ℕ) (calculable : QueryMeant C S → Bool) (IsList : QueryMeant C S → List ℕ → Type 0)
    (asked : Result (QueryMeant C S) MethodError) where
  -- the answer of a list that is the one asked
  pub of_list : (q : QueryMeant C S) (list : List ℕ) → asked ≡ Ok q → IsList q list
      → AnswersQuery letter state calculable IsList asked (list_answer letter state (calculable q) list q.counts q.part)
  of_list q list is are = by (part_of letter list q.part) refl
    where
      by : (part : Option WindowPart) → part_of letter list q.part ≡ part
          → AnswersQuery letter state calculable IsList asked (ok_or (option_map (query_data letter state (calculable q) list q.counts) part) AnchorNotFound)
      by None none = NoAnchor q list is are none
      by (Some part) some = Answered q list part is are some

  answers_so : (r : Result Value MethodError) (meant : Result Data MethodError) → Agrees Memory view r meant → AnswersQuery letter state calculable IsList asked meant
      → Meets Memory view r (AnswersQuery letter state calculable IsList asked)
  answers_so (Ok value) meant is a = subst (AnswersQuery letter state calculable IsList asked) is a
  answers_so (Err e) meant (inl memory) a = inl memory
  answers_so (Err e) meant (inr is) a = inr (subst (AnswersQuery letter state calculable IsList asked) is a)

  -- what is answered of the list that is asked
  pub answered : (r : Result Value MethodError) (q : QueryMeant C S) (list found text : List ℕ) (alone : Bool) → text ≡ state → alone ≡ calculable q → found ≡ list
      → Agrees Memory view r (list_answer letter text alone found q.counts q.part) → asked ≡ Ok q → IsList q list
      → Meets Memory view r (AnswersQuery letter state calculable IsList asked)
  answered r q list found text alone same_text same_alone same_list is asked_is are =
      let A : Type 0 = Agrees Memory view r (list_answer letter state (calculable q) list q.counts q.part) in
      let now : A =
      subst (λ (l : List ℕ). Agrees Memory view r (list_answer letter state (calculable q) l q.counts q.part)) same_list
      (subst (λ (b : Bool). Agrees Memory view r (list_answer letter state b found q.counts q.part)) same_alone
      (subst (λ (t : List ℕ). Agrees Memory view r (list_answer letter t alone found q.counts q.part)) same_text is)) in
      answers_so r (list_answer letter state (calculable q) list q.counts q.part) now (of_list q list asked_is are)

  -- a refusal by the arguments, or out of memory
  pub refused : (e : MethodError) → (e ≡ Memory) ⊎ (asked ≡ Err e) → (e ≡ Memory) ⊎ AnswersQuery letter state calculable IsList asked (Err e)
  refused e (inl memory) = inl memory
  refused e (inr is) = inr (Refused e is)

-- the text of a type's state, where rows and touches stand for what has become of the type
pub state_is : {R V : Type 0} (serve : R → V) (rows : List (ℕ × R)) (list : Kept) (h : MailHistory) (p : Past V) (epoch : ℕ) (text : List ℕ)
    → epoch ≡ h.epoch → StandsFor serve rows list p → text ≡ state_text (record { epoch = epoch; place = list.place }) → text ≡ type_state h p
state_is serve rows list h p epoch text same stands is =
    is ∙ ap (λ (n : ℕ). state_text (record { epoch = n; place = list.place })) same
    ∙ ap (λ (n : ℕ). state_text (record { epoch = h.epoch; place = n })) (stands.kept.place ∙ length-entries_from _ p.touches)

-- ---- integers alone

whole_ids : (letter : ℕ) (numbers : List ℕ) → items_have_float (items_of (map (id_data letter) numbers)) ≡ false
whole_ids letter [] = refl
whole_ids letter (n ∷ ns) = whole_ids letter ns

whole_total : (counts : Bool) (total : ℕ) → members_have_float (total_if counts total) ≡ false
whole_total true total = refl
whole_total false total = refl

whole_data : (letter : ℕ) (state : List ℕ) (calculable : Bool) (list : List ℕ) (counts : Bool) (part : WindowPart)
    → has_float (query_data letter state calculable list counts part) ≡ false
whole_data letter state calculable list counts part = rw (whole_ids letter part.numbers, whole_total counts (length list)) refl

pub whole_answer : (letter : ℕ) (state : List ℕ) (calculable : Bool) (list : List ℕ) (counts : Bool) (part : AskedPart)
    → IfOk (list_answer letter state calculable list counts part) (λ d. has_float d ≡ false)
whole_answer letter state calculable list counts part = by (part_of letter list part)
  where
    by : (o : Option WindowPart) → IfOk (ok_or (option_map (query_data letter state calculable list counts) o) AnchorNotFound) (λ d. has_float d ≡ false)
    by None = tt
    by (Some p) = whole_data letter state calculable list counts p

-- what agrees with an answer of integers has integers alone
pub whole_of : (r : Result Value MethodError) (meant : Result Data MethodError) → Agrees Memory view r meant → IfOk meant (λ d. has_float d ≡ false)
    → IfOk r (λ value. has_float (view value) ≡ false)
whole_of (Ok value) meant is whole = subst (λ (m : Result Data MethodError). IfOk m (λ d. has_float d ≡ false)) is whole
whole_of (Err e) meant is whole = tt
