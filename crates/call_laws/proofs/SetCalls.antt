-- A call of a method that changes mail ends with an error only by a cause of it.
use Rattle.std.proofs.Common.{◌≡◌, ◌⊎◌, ◌∙◌, ℕ, true, false, List, Result, Ok, Err, inl, inr, sym, ap, subst}
use Rattle.gate_world.specs.declared.event.Event.{Event}
use Rattle.serde_json.specs.Data.{Data}
use Rattle.email_bodies.specs.Asking.{BodyAsk}
use Rattle.jmap_arguments.specs.declared.method_error.MethodError.{MethodError}
use Rattle.jmap_arguments.specs.declared.method_error.MethodError.TheVariants.{ServerFail, ServerPartialFail, ServerUnavailable}
use Rattle.jmap_arguments.specs.declared.using.Using.{Using}
use Rattle.jmap_core.specs.CreatedIds.{Ids}
use Rattle.mail_state.specs.History.{MailHistory}
use Rattle.result_references.specs.Call.{CallData}
use Rattle.result_references.specs.References.{resolved_arguments}
use Rattle.set_arguments.specs.Arguments.{SetAsked, set_asked}
use Rattle.set_arguments.specs.declared.set_method.SetMethod.{SetMethod}
use Rattle.set_jobs.specs.declared.done.Done.{Done}
use Rattle.set_order.specs.Ordered.{Item}
use Rattle.set_items.specs.Causes.{FailedPartly, WasUnavailable}
use Rattle.set_calls.specs.Calls.{SetCall}
use Rattle.set_calls.specs.Promises.{ChecksFit}
use Rattle.gate_machine.specs.Progress.{Progress}
use Rattle.gate_changes.specs.Answering as answering
use Rattle.gate_changes.specs.Answering.{AnswersChange, ChangeState, DoesChange, call_of, is_current}
use Rattle.gate_changes.specs.Changing.{ChangesMail}
use Rattle.gate_calls.specs.Calling.{Asked, CallsState, DoesCall, Reads, Changes}
use Rattle.gate_calls.specs.Calls.{AnswersCall, NoMethod, Unresolved, Resolved}
use Rattle.gate_calls.specs.ItemChecks.{item_checks}
use Rattle.gate_calls.specs.Mailings.{Mailing, MailAndUploads, mail_at}
use Rattle.gate_calls.specs.MethodNames.{method_asked}
use Rattle.gate_calls.specs.Methods.{OverMail, RepliesTo, set_refused}
use Rattle.gate_calls.specs.declared.method.Method.{Method}
use Rattle.gate_calls.specs.declared.method.Method.TheVariants.{Set}
use Rattle.call_laws.specs.Ended.{EndsInError, HasNoPlaces, InPart, IsEndedByCause, IsEndedSo, NoPlaces, Unavailable}

-- what is proved of the items of a call and their commit
pub record ErrorLaws : Type 0 where
  pub partly : (call : SetCall) (items : List Item) (before : Progress) (events : List Event) (after : Progress) → ChecksFit call
      → ChangesMail call items before (Err ServerPartialFail) events after → IsEndedSo FailedPartly ServerPartialFail call items before
  pub unavailable : (call : SetCall) (items : List Item) (before : Progress) (events : List Event) (after : Progress) → ChecksFit call
      → ChangesMail call items before (Err ServerUnavailable) events after → IsEndedSo WasUnavailable ServerUnavailable call items before
  pub fail : (call : SetCall) (items : List Item) (before : Progress) (events : List Event) (after : Progress)
      → ChangesMail call items before (Err ServerFail) events after → HasNoPlaces call items before
  pub others : (call : SetCall) (items : List Item) (before : Progress) (e : MethodError) (events : List Event) (after : Progress)
      → ChangesMail call items before (Err e) events after → (e ≡ ServerPartialFail) ⊎ (e ≡ ServerUnavailable) ⊎ (e ≡ ServerFail)
  pub fit : (uploads : List (List ℕ)) (m : SetMethod) (a : SetAsked) (h : MailHistory) (created : Ids) → ChecksFit (call_of (item_checks uploads) m a h created)

ends_by : ErrorLaws → (uploads : List (List ℕ)) (m : SetMethod) (a : SetAsked) (h : MailHistory) (before : ChangeState) (items : List Item) (e : MethodError) (events : List Event) (after : Progress)
    → ChangesMail (call_of (item_checks uploads) m a h before.created) items before.progress (Err e) events after → EndsInError uploads m a h before items e
ends_by laws uploads m a h before items e events after does =
    let call : SetCall = call_of (item_checks uploads) m a h before.created in
    elim (laws.others call items before.progress e events after does) [
      | inl is ↦ subst (EndsInError uploads m a h before items) (sym is) (InPart (laws.partly call items before.progress events after (laws.fit uploads m a h before.created)
          (subst (λ (x : MethodError). ChangesMail call items before.progress (Err x) events after) is does)))
      | inr (inl is) ↦ subst (EndsInError uploads m a h before items) (sym is) (Unavailable (laws.unavailable call items before.progress events after (laws.fit uploads m a h before.created)
          (subst (λ (x : MethodError). ChangesMail call items before.progress (Err x) events after) is does)))
      | inr (inr is) ↦ subst (EndsInError uploads m a h before items) (sym is) (NoPlaces (laws.fail call items before.progress events after
          (subst (λ (x : MethodError). ChangesMail call items before.progress (Err x) events after) is does)))
    ]

ok_same : {A E : Type 0} (x y : A) → ◌≡◌ {A = Result A E} (Ok x) (Ok y) → x ≡ y
ok_same x y is = cc

error_same : {A E : Type 0} (x y : E) → ◌≡◌ {A = Result A E} (Err x) (Err y) → x ≡ y
error_same x y is = cc

no_ok : {A E : Type 0} {Y : Type 0} (x : A) (e : E) → ◌≡◌ {A = Result A E} (Err e) (Ok x) → Y
no_ok x e is = absurd (cc)

-- where its error is answered
answered_by : ErrorLaws → (uploads : List (List ℕ)) (m : SetMethod) (a : SetAsked) (h : MailHistory) (before : ChangeState) (items : List Item) (came : Result (List (Item × Done)) MethodError)
    (result : Result Data MethodError) (e : MethodError) (events : List Event) (after : ChangeState) → result ≡ Err e
    → ChangesMail (call_of (item_checks uploads) m a h before.created) items before.progress came events after.progress → AnswersChange m h before came result after
    → EndsInError uploads m a h before items e
answered_by laws uploads m a h before items came result e events after error does (answering.Replies done known came_is ready result_is ids) =
    no_ok _ e (sym error ∙ result_is)
answered_by laws uploads m a h before items came result e events after error does (answering.Fails other came_is result_is ids) =
    let same : other ≡ e = error_same other e (sym result_is ∙ error) in
    ends_by laws uploads m a h before items e events after.progress
    (subst (λ (x : Result (List (Item × Done)) MethodError). ChangesMail (call_of (item_checks uploads) m a h before.created) items before.progress x events after.progress)
    (came_is ∙ ap (λ (x : MethodError). Err x) same) does)

change_by : ErrorLaws → {uploads : List (List ℕ)} {m : SetMethod} {d : Data} {before after : ChangeState} {result : Result Data MethodError} {events : List Event} (a : SetAsked) (h : MailHistory)
    (e : MethodError) → DoesChange (item_checks uploads) m d (Ok h) before result events after → result ≡ Err e → set_asked m d ≡ Ok a → is_current m a h ≡ true
    → IsEndedByCause uploads m a h before e
change_by laws a h e (answering.Refused other refused result_is none same) error asked current = no_ok a other (sym refused ∙ asked)
change_by laws a h e (answering.Untold b other is mail_is result_is none same) error asked current = no_ok h other (sym mail_is)
change_by laws {m = m} a h e (answering.Asked b j is mail_is (answering.Mismatch stale result_is none same)) error asked current =
    let a_is : b ≡ a = ok_same b a (sym is ∙ asked) in
    let h_is : j ≡ h = ok_same j h (sym mail_is) in
    absurd (let no : true ≡ false = sym current ∙ (ap (λ (x : SetAsked). is_current m x h) (sym a_is) ∙ (ap (λ (x : MailHistory). is_current m b x) (sym h_is) ∙ stale)) in cc)
change_by laws {uploads = uploads} {m = m} {before = before} {after = after} {result = result} {events = events} a h e
    (answering.Asked b j is mail_is (answering.Changes items came current_is items_are does answers)) error asked current =
    let a_is : b ≡ a = ok_same b a (sym is ∙ asked) in
    let h_is : j ≡ h = ok_same j h (sym mail_is) in
    subst (λ (x : MailHistory). IsEndedByCause uploads m a x before e) h_is (subst (λ (x : SetAsked). IsEndedByCause uploads m x j before e) a_is (record {
      items = items;
      are_of = items_are;
      ends = answered_by laws uploads m b j before items came result e events after error does answers;
    }))

-- ---- a call that reads is another one

method_same : (m n : SetMethod) → Set m ≡ Set n → m ≡ n
method_same m n is = cc

reads_other : {uses : Using} {over : MailAndUploads} {earlier : List CallData} {call : CallData} {asks : List BodyAsk} {result : Result Data MethodError} (m : SetMethod) (d : Data)
    (h : MailHistory) → AnswersCall uses over earlier call asks result → method_asked uses call.name ≡ Ok (Set m) → resolved_arguments earlier call.arguments ≡ Ok d
    → over.mail ≡ Ok h → ⊥
reads_other m d h (NoMethod e none) named is told = no_ok (Set m) e (sym none ∙ named)
reads_other m d h (Unresolved n e other none) named is told = no_ok d e (sym none ∙ is)
reads_other {over = over} m d h (Resolved {asks = asks} {result = result} n b other there replies) named is told =
    let same : n ≡ Set m = ok_same n (Set m) (sym other ∙ named) in
    let so : RepliesTo (Set m) over b asks result = subst (λ (x : Method). RepliesTo x over b asks result) same replies in
    subst (λ (mail : Mailing). OverMail mail (set_refused m b) (λ k more r. ⊥) asks result) told so

pub call_by : ErrorLaws → {uses : Using} {uploads : List (List ℕ)} {earlier : List CallData} {call : CallData} {before after : CallsState} {asks : List Asked}
    {result : Result Data MethodError} {events : List Event} (e : MethodError) (m : SetMethod) (d : Data) (a : SetAsked) (h : MailHistory)
    → DoesCall uses uploads earlier call before asks result events after → result ≡ Err e → method_asked uses call.name ≡ Ok (Set m)
    → resolved_arguments earlier call.arguments ≡ Ok d → set_asked m d ≡ Ok a → mail_at before.progress ≡ Ok h → is_current m a h ≡ true
    → IsEndedByCause uploads m a h before e
call_by laws e m d a h (Reads bodies answers asked asks_are ids) error named is right told current = absurd (reads_other m d h answers named is told)
call_by laws {uploads = uploads} {before = before} e m d a h (Changes n b j other there here does asks_are) error named is right told current =
    let m_is : n ≡ m = method_same n m (ok_same (Set n) (Set m) (sym other ∙ named)) in
    let d_is : b ≡ d = ok_same b d (sym there ∙ is) in
    let h_is : j ≡ h = ok_same j h (sym here ∙ told) in
    subst (λ (x : SetMethod). IsEndedByCause uploads x a h before e) m_is (subst (λ (x : MailHistory). IsEndedByCause uploads n a x before e) h_is
    (change_by laws a j e does error (ap (λ (x : SetMethod). set_asked x b) m_is ∙ (ap (λ (x : Data). set_asked m x) d_is ∙ right))
    (ap (λ (x : SetMethod). is_current x a j) m_is ∙ (ap (λ (x : MailHistory). is_current m a x) h_is ∙ current))))
