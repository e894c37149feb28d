-- What a call of a changing method comes to over what is served at its moment (RFC 8620 sections 3.6.2 and 5.3).
use Rattle.std.specs.Prelude.{◌≡◌, Bool, true, false, List, [], Some, Result, Ok, Err}
use Rattle.gate_world.specs.declared.event.Event.{Event}
use Rattle.serde_json.specs.Data.{Data}
use Rattle.jmap_core.specs.CreatedIds.{Ids}
use Rattle.jmap_arguments.specs.declared.method_error.MethodError.{MethodError}
use Rattle.jmap_arguments.specs.declared.method_error.MethodError.TheVariants.{StateMismatch}
use Rattle.mail_state.specs.History.{MailHistory}
use Rattle.gate_machine.specs.History.{KnownMail}
use Rattle.gate_machine.specs.Progress.{Progress}
use Rattle.set_arguments.specs.Arguments.{SetAsked, set_asked}
use Rattle.set_arguments.specs.declared.set_method.SetMethod.{SetMethod}
use Rattle.set_jobs.specs.declared.done.Done.{Done}
use Rattle.set_order.specs.Ordered.{Item, ItemsOf, making}
use Rattle.set_methods.specs.Checks.{Rules}
use Rattle.set_calls.specs.Calls.{SetCall}
use Rattle.set_replies.specs.Created.{created_with}
use Rattle.set_replies.specs.Replies.{set_reply}
use Rattle.set_replies.specs.States.{is_state, place_of, state_of}
use Rattle.gate_changes.specs.Changing.{ChangesMail, LacksChange}

-- the work so far, and the ids that were created by then
pub record ChangeState : Type 0 where
  pub progress : Progress
  pub created : Ids

-- what an item has to pass, by the method and by what its call asks
abbrev pub ItemChecks : Type 0
ItemChecks = SetMethod → SetAsked → Rules

-- a call that asks this, over what has become of the mail and these ids
abbrev pub call_of : ItemChecks → SetMethod → SetAsked → MailHistory → Ids → SetCall
call_of checks m a h created = record { history = h; created = created; making = making a.create; rules = checks m a }

-- whether the state that the call names is the one that there is
abbrev pub is_current : SetMethod → SetAsked → MailHistory → Bool
is_current m a h = is_state (state_of m h) a.state

-- The reply is read from the history after the commit, which adds the ids of what was made. An error leaves the ids.
pub data AnswersChange (m : SetMethod) (h : MailHistory) (before : ChangeState) (came : Result (List (Item × Done)) MethodError) (result : Result Data MethodError)
    (after : ChangeState) : Type 0 where
  Replies : (done : List (Item × Done)) (known : KnownMail) → came ≡ Ok done → after.progress.machine.known ≡ Some known
      → result ≡ Ok (set_reply m (place_of m h) known.history done) → after.created ≡ created_with known.history before.created done
      → AnswersChange m h before came result after
  Fails : (e : MethodError) → came ≡ Err e → result ≡ Err e → after.created ≡ before.created → AnswersChange m h before came result after

-- A call that asks this, over what has become of the mail: the state that it names isn't the one that there is, and nothing is asked of the outside; or its
-- items are done.
pub data ChangesAsked (checks : ItemChecks) (m : SetMethod) (a : SetAsked) (h : MailHistory) (before : ChangeState) (result : Result Data MethodError) (events : List Event)
    (after : ChangeState) : Type 0 where
  Mismatch : is_current m a h ≡ false → result ≡ Err StateMismatch → events ≡ [] → after ≡ before → ChangesAsked checks m a h before result events after
  Changes : (items : List Item) (came : Result (List (Item × Done)) MethodError) → is_current m a h ≡ true → ItemsOf m before.created a items
      → ChangesMail (call_of checks m a h before.created) items before.progress came events after.progress → AnswersChange m h before came result after
      → ChangesAsked checks m a h before result events after

-- Memory runs out in such a call: before its items, meanwhile, or when it is answered.
pub data LacksAsked (checks : ItemChecks) (m : SetMethod) (a : SetAsked) (h : MailHistory) (before : ChangeState) (events : List Event) (after : Progress) : Type 0 where
  BeforeItems : events ≡ [] → after ≡ before.progress → LacksAsked checks m a h before events after
  Meanwhile : (items : List Item) → is_current m a h ≡ true → ItemsOf m before.created a items
      → LacksChange (call_of checks m a h before.created) items before.progress events after → LacksAsked checks m a h before events after
  Unanswered : (items : List Item) (came : Result (List (Item × Done)) MethodError) → is_current m a h ≡ true → ItemsOf m before.created a items
      → ChangesMail (call_of checks m a h before.created) items before.progress came events after → LacksAsked checks m a h before events after

-- What a call of a changing method comes to, where this is told of the mail: it is refused by its arguments, then by what is told of the mail, and nothing is
-- asked of the outside; or it is over the history that is told.
pub data DoesChange (checks : ItemChecks) (m : SetMethod) (d : Data) (mail : Result MailHistory MethodError) (before : ChangeState) (result : Result Data MethodError)
    (events : List Event) (after : ChangeState) : Type 0 where
  Refused : (e : MethodError) → set_asked m d ≡ Err e → result ≡ Err e → events ≡ [] → after ≡ before → DoesChange checks m d mail before result events after
  Untold : (a : SetAsked) (e : MethodError) → set_asked m d ≡ Ok a → mail ≡ Err e → result ≡ Err e → events ≡ [] → after ≡ before
      → DoesChange checks m d mail before result events after
  Asked : (a : SetAsked) (h : MailHistory) → set_asked m d ≡ Ok a → mail ≡ Ok h → ChangesAsked checks m a h before result events after
      → DoesChange checks m d mail before result events after

-- Memory runs out in it: before its arguments are read, or later.
pub data LacksAnswer (checks : ItemChecks) (m : SetMethod) (d : Data) (mail : Result MailHistory MethodError) (before : ChangeState) (events : List Event)
    (after : Progress) : Type 0 where
  Unread : events ≡ [] → after ≡ before.progress → LacksAnswer checks m d mail before events after
  LacksIn : (a : SetAsked) (h : MailHistory) → set_asked m d ≡ Ok a → mail ≡ Ok h → LacksAsked checks m a h before events after
      → LacksAnswer checks m d mail before events after
