-- The history that is served goes on over each call.
use Rattle.std.proofs.Common.{◌≡◌, ◌∙◌, ℕ, List, Option, Some, None, Result, Ok, sym, ap, subst}
use Rattle.gate_world.specs.declared.event.Event.{Event}
use Rattle.jmap_arguments.specs.declared.method_error.MethodError.{MethodError}
use Rattle.jmap_arguments.specs.declared.using.Using.{Using}
use Rattle.mail_state.specs.History.{MailHistory}
use Rattle.result_references.specs.Call.{CallData}
use Rattle.serde_json.specs.Data.{Data}
use Rattle.set_arguments.specs.Arguments.{SetAsked}
use Rattle.set_arguments.specs.declared.set_method.SetMethod.{SetMethod}
use Rattle.set_jobs.specs.declared.done.Done.{Done}
use Rattle.set_order.specs.Ordered.{Item}
use Rattle.set_calls.specs.Calls.{SetCall}
use Rattle.gate_machine.specs.Going.{HasGoneOn, Still, On}
use Rattle.gate_machine.specs.History.{KnownMail}
use Rattle.gate_machine.specs.Progress.{Progress}
use Rattle.gate_machine.specs.declared.mail_status.MailStatus.{MailStatus}
use Rattle.gate_machine.specs.declared.mail_status.MailStatus.TheVariants as standing
use Rattle.gate_changes.specs.Answering as answering
use Rattle.gate_changes.specs.Answering.{ChangeState, ChangesAsked, DoesChange}
use Rattle.gate_changes.specs.Changing.{ChangesMail}
use Rattle.gate_calls.specs.Calling.{Asked, CallsState, DoesCall, Reads, Changes}
use Rattle.gate_calls.specs.ItemChecks.{item_checks}
use Rattle.gate_calls.specs.Mailings.{Mailing, mail_at, mailing_by}
use Rattle.gate_calls.proofs.Bodies.{bodies_keep_mail}

-- what is proved of the items of a call and their commit
abbrev pub ChangesGoOn : Type 0
ChangesGoOn = (call : SetCall) (items : List Item) (before : Progress) (result : Result (List (Item × Done)) MethodError) (events : List Event) (after : Progress)
    → ChangesMail call items before result events after → (k : KnownMail) → after.machine.known ≡ Some k
    → (j : KnownMail) × (before.machine.known ≡ Some j) × HasGoneOn j.history k.history

-- where the mail is told it is the history that the machine knows
known_history : (s : MailStatus) (known : Option KnownMail) (h : MailHistory) (k : KnownMail) → mailing_by s known ≡ Ok h → known ≡ Some k → h ≡ k.history
known_history standing.Stands None h k told is = absurd (let no : ◌≡◌ {A = Option KnownMail} None (Some k) = is in cc)
known_history standing.Stands (Some j) h k told is =
    let same : j ≡ k = cc in let here : j.history ≡ h = cc in sym here ∙ ap (λ (x : KnownMail). x.history) same
known_history (standing.Unserved why) known h k told is = absurd (cc)
known_history standing.OutOfMemory known h k told is = absurd (cc)

abbrev IsServedThen : MailHistory → Progress → Type 0
IsServedThen h p = (k : KnownMail) → p.machine.known ≡ Some k → HasGoneOn h k.history

stays : (p : Progress) (h : MailHistory) → mail_at p ≡ Ok h → IsServedThen h p
stays p h told k is = subst (HasGoneOn h) (known_history p.standing p.machine.known h k told is) Still

same_served : (h : MailHistory) (p q : Progress) → q ≡ p → IsServedThen h p → IsServedThen h q
same_served h p q is served = subst (IsServedThen h) (sym is) served

begun_by : (h : MailHistory) (p : Progress) (k : KnownMail) → mail_at p ≡ Ok h → (j : KnownMail) × (p.machine.known ≡ Some j) × HasGoneOn j.history k.history
    → HasGoneOn h k.history
begun_by h p k told (j, is, goes) = subst (λ (x : MailHistory). HasGoneOn x k.history) (sym (known_history p.standing p.machine.known h j told is)) goes

asked_goes : ChangesGoOn → {uploads : List (List ℕ)} (m : SetMethod) (a : SetAsked) (d h : MailHistory) (before : ChangeState) (result : Result Data MethodError) (events : List Event) (after : ChangeState)
    → ChangesAsked (item_checks uploads) m a d before result events after → mail_at before.progress ≡ Ok h → IsServedThen h after.progress
asked_goes law m a d h before result events after (answering.Mismatch is result_is none same) told =
    same_served h before.progress after.progress (ap (λ (s : ChangeState). s.progress) same) (stays before.progress h told)
asked_goes law m a d h before result events after (answering.Changes items came is items_are changes answers) told = λ k ready.
    begun_by h before.progress k told (law _ items before.progress came events after.progress changes k ready)

change_goes : ChangesGoOn → {uploads : List (List ℕ)} (m : SetMethod) (d : Data) (mail : Mailing) (h : MailHistory) (before : ChangeState) (result : Result Data MethodError) (events : List Event)
    (after : ChangeState) → DoesChange (item_checks uploads) m d mail before result events after → mail_at before.progress ≡ Ok h → IsServedThen h after.progress
change_goes law m d mail h before result events after (answering.Refused e is result_is none same) told =
    same_served h before.progress after.progress (ap (λ (s : ChangeState). s.progress) same) (stays before.progress h told)
change_goes law m d mail h before result events after (answering.Untold a e is mail_is result_is none same) told =
    same_served h before.progress after.progress (ap (λ (s : ChangeState). s.progress) same) (stays before.progress h told)
change_goes law m d mail h before result events after (answering.Asked a over is mail_is changes) told = asked_goes law m a over h before result events after changes told

pub call_goes : ChangesGoOn → {uses : Using} {uploads : List (List ℕ)} {earlier : List CallData} {call : CallData} {before : CallsState} {asks : List Asked}
    {result : Result Data MethodError} {events : List Event} {after : CallsState} (h : MailHistory) → DoesCall uses uploads earlier call before asks result events after
    → mail_at before.progress ≡ Ok h → IsServedThen h after.progress
call_goes law {after = after} h (Reads bodies answers asked asks_are ids) told = stays after.progress h (bodies_keep_mail asked ∙ told)
call_goes law {before = before} {result = result} {events = events} {after = after} h (Changes m d over named is mail_is does asks_are) told =
    change_goes law m d (Ok over) h before result events after does told

pub joined : (h j k : MailHistory) → HasGoneOn h j → HasGoneOn j k → HasGoneOn h k
joined h j k first Still = first
joined h j k first (On m goes next advances) = On m (joined h j _ first goes) next advances
