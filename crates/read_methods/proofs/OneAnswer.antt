-- A /changes has one answer.
use Rattle.std.proofs.Common.{◌≡◌, ◌<◌, ◌^◌, arith, ℕ, List, length, Result, Ok, Err, refl, sym, ap, ◌∙◌, subst}
use Rattle.std.specs.Result.{IfOk}
use Rattle.serde_json.specs.Data.{Data}
use Rattle.change_list.specs.Changes.{IsChanges}
use Rattle.change_list.specs.declared.answer.Changes.{Changes}
use Rattle.change_list.specs.declared.entries.Entry.{Entry}
use Rattle.change_list.proofs.AnswerLaws.{one_answer}
use Rattle.jmap_arguments.specs.declared.method_error.MethodError.{MethodError}
use Rattle.jmap_arguments.proofs.StateParts.{one_place}
use Rattle.read_methods.specs.Changes.{ChangesAsked, AnsweredChanges, changes_data, Further, AnswersChanges, Refused, NoSuchState, Answered}
use Rattle.served_types.specs.States.{IsPlaceOf, NamesNone}

abbrev Asking : Type 0
Asking = Result ChangesAsked MethodError

ok_is : (a b : ChangesAsked) → (let x : Asking = Ok a in x) ≡ Ok b → a ≡ b
ok_is a b is = ap (λ (r : Asking). elim r as (λ r. ChangesAsked) [ Ok x ↦ x | Err e ↦ a ]) is

err_is : (e f : MethodError) → (let x : Asking = Err e in x) ≡ Err f → e ≡ f
err_is e f is = ap (λ (r : Asking). elim r as (λ r. MethodError) [ Ok x ↦ e | Err g ↦ g ]) is

never_both : (e : MethodError) (a : ChangesAsked) → (let x : Asking = Err e in x) ≡ Ok a → ⊥
never_both e a is = subst (λ (r : Asking). IfOk r (λ x. ⊥)) is tt

module _ (letter epoch : ℕ) (h : List Entry) (further : Further) (few : length h < 2 ^ 64) where
  same_place : (text : List ℕ) (p q : ℕ) → IsPlaceOf epoch (length h) text p → IsPlaceOf epoch (length h) text q → p ≡ q
  same_place text p q a b = one_place epoch p q (omega (arith, few, a.to_last)) (omega (arith, few, b.to_last)) (sym a.text_is ∙ b.text_is)

  same_changes : (asked : ChangesAsked) (a b : AnsweredChanges epoch h asked) → a.changes ≡ b.changes
  same_changes asked a b =
      let P : ℕ → Type 0 = λ p. IsChanges h p asked.most b.changes in
      one_answer h a.place asked.most a.changes b.changes a.are_changes
      (subst P (same_place asked.since b.place a.place b.named a.named) b.are_changes)

  abbrev answer_to : ChangesAsked → Changes → Result Data MethodError
  answer_to asked c = Ok (changes_data letter epoch (length h) asked.since further c)

  both_answered : (asked other : ChangesAsked) (a : AnsweredChanges epoch h asked) (b : AnsweredChanges epoch h other) → asked ≡ other
      → answer_to asked a.changes ≡ answer_to other b.changes
  both_answered asked other a b same =
      let P : ChangesAsked → Type 0 = λ o. (b : AnsweredChanges epoch h o) → answer_to asked a.changes ≡ answer_to o b.changes in
      let here : P asked = λ b. ap (λ (c : Changes). answer_to asked c) (same_changes asked a b) in
      subst P same here b

  none_found : (asked other : ChangesAsked) → asked ≡ other → NamesNone epoch (length h) asked.since → AnsweredChanges epoch h other → ⊥
  none_found asked other same none a =
      let P : ChangesAsked → Type 0 = λ o. NamesNone epoch (length h) o.since in
      let there : NamesNone epoch (length h) other.since = subst P same none in
      there a.place a.named

  one_of : (d : Data) (r s : Result Data MethodError) → AnswersChanges letter epoch h further d r → AnswersChanges letter epoch h further d s → r ≡ s
  one_of d _ _ (Refused e is) (Refused f js) = ap (λ (g : MethodError). let x : Result Data MethodError = Err g in x) (err_is e f (sym is ∙ js))
  one_of d _ _ (Refused e is) (NoSuchState asked js none) = absurd (never_both e asked (sym is ∙ js))
  one_of d _ _ (Refused e is) (Answered asked a js) = absurd (never_both e asked (sym is ∙ js))
  one_of d _ _ (NoSuchState asked is none) (Refused f js) = absurd (never_both f asked (sym js ∙ is))
  one_of d _ _ (NoSuchState asked is none) (NoSuchState other js nor) = refl
  one_of d _ _ (NoSuchState asked is none) (Answered other a js) = absurd (none_found asked other (ok_is asked other (sym is ∙ js)) none a)
  one_of d _ _ (Answered asked a is) (Refused f js) = absurd (never_both f asked (sym js ∙ is))
  one_of d _ _ (Answered asked a is) (NoSuchState other js none) = absurd (none_found other asked (ok_is other asked (sym js ∙ is)) none a)
  one_of d _ _ (Answered asked a is) (Answered other b js) = both_answered asked other a b (ok_is asked other (sym is ∙ js))

-- touches and a call have one answer
pub one_changes_answer : (letter epoch : ℕ) (h : List Entry) (further : Further) (d : Data) (r s : Result Data MethodError)
    → length h < 2 ^ 64 → AnswersChanges letter epoch h further d r → AnswersChanges letter epoch h further d s → r ≡ s
one_changes_answer letter epoch h further d r s few a b = one_of letter epoch h further few d r s a b
