-- Why a call that changes mail ends with an error (RFC 8620 section 3.6.2).
use Rattle.std.specs.Prelude.{◌≡◌, ◌⊎◌, ◌++◌, ◌||◌, ℕ, Bool, false, List, [], ◌∷◌, Some, None, Result, Ok}
use Rattle.std.specs.List.{list_any}
use Rattle.gate_world.specs.declared.event.Event.{Event}
use Rattle.imap_client.specs.LinkLife.{LinkLife}
use Rattle.jmap_arguments.specs.declared.method_error.MethodError.{MethodError}
use Rattle.jmap_arguments.specs.declared.method_error.MethodError.TheVariants.{ServerFail, ServerPartialFail, ServerUnavailable}
use Rattle.mail_state.specs.History.{MailHistory}
use Rattle.set_arguments.specs.Arguments.{SetAsked}
use Rattle.set_arguments.specs.declared.set_method.SetMethod.{SetMethod}
use Rattle.email_bodies.specs.Asking.{BodyAsk}
use Rattle.set_jobs.specs.declared.done.Done.{Done}
use Rattle.set_jobs.specs.declared.done.SetError.{SetError}
use Rattle.set_jobs.specs.declared.job.Job.{Job}
use Rattle.set_order.specs.Ordered.{Item, ItemsOf}
use Rattle.set_methods.specs.Checks.{ImportRules}
use Rattle.set_items.specs.Causes.{Ending, FailedPartly, WasUnavailable}
use Rattle.set_items.specs.Ends.{error_where}
use Rattle.set_calls.specs.Calls.{SetCall, CallState, call_begun}
use Rattle.set_calls.specs.Promises.{IsEndedBy}
use Rattle.gate_machine.specs.History.{KnownMail, IsSpent}
use Rattle.gate_machine.specs.Progress.{Progress}
use Rattle.gate_changes.specs.Answering.{ChangeState, call_of}
use Rattle.gate_changes.specs.Changing.{DoesCourse}
use Rattle.gate_changes.specs.Importing.{DoesImports, PreparesImport, is_made, with_known}
use Rattle.gate_changes.specs.Items.{ItemsCame}
use Rattle.gate_calls.specs.ItemChecks.{item_checks}

-- The steps of one of its items ended it with this error, over the mail that was told and in what was left of the link life; and this is so of how they
-- ended.
pub record IsEndedIn (Why : Ending → Type 0) (e : MethodError) (call : SetCall) (items : List Item) (before : Progress) : Type 0 where
  pub known : KnownMail
  pub life : LinkLife
  pub now : CallState
  pub doing : List Event
  pub ready : before.machine.known ≡ Some known
  pub in_life : before.left ≡ Some life
  pub ended : IsEndedBy Why e call items (call_begun known.told.mail life) now doing

-- ---- imports

-- An import ended its call with this error, where an Email was made before it in the call or none was: its own steps failed in part; or the store wasn't there for
-- them, or the body that it asked didn't come, so that the call failed in part where something was made.
pub data ImportFails (call : SetCall) (uploads : List (List ℕ)) (made : Bool) (item : Item) (before : Progress) : MethodError → Type 0 where
  StepsFail : {asks : List BodyAsk} {events : List Event} {mid : Progress} (steps : Result Job SetError) → PreparesImport call uploads item before asks (Some steps) events mid
      → IsEndedIn FailedPartly ServerPartialFail (with_known call steps) (item ∷ []) mid → ImportFails call uploads made item before ServerPartialFail
  StoreGone : {asks : List BodyAsk} {events : List Event} {mid : Progress} (steps : Result Job SetError) → PreparesImport call uploads item before asks (Some steps) events mid
      → IsEndedIn WasUnavailable ServerUnavailable (with_known call steps) (item ∷ []) mid → ImportFails call uploads made item before (error_where made)
  BodyGone : {asks : List BodyAsk} {events : List Event} {after : Progress} → PreparesImport call uploads item before asks None events after
      → ImportFails call uploads made item before (error_where made)

-- whether one of these made an Email
abbrev pub any_made : List (Item × Done) → Bool
any_made done = list_any (λ (e : Item × Done). is_made e.1) done

-- One of these imports ended the call so, after those before it, and after others that made an Email or made none.
pub record EndedByImport (uploads : List (List ℕ)) (e : MethodError) (call : SetCall) (made : Bool) (items : List Item) (before : Progress) : Type 0 where
  pub earlier : List Item
  pub item : Item
  pub later : List Item
  pub whole : earlier ++ item ∷ later ≡ items
  pub done : List (Item × Done)
  pub doing : List Event
  pub mid : Progress
  pub course : DoesImports call uploads made before earlier (Ok done) doing mid
  pub fails : ImportFails call uploads (made || any_made done) item mid e

-- one of its imports ended it so
pub record SomeImportFails (e : MethodError) (call : SetCall) (items : List Item) (before : Progress) : Type 0 where
  pub uploads : List (List ℕ)
  pub are_imports : call.rules ≡ ImportRules uploads
  pub ended : EndedByImport uploads e call false items before

-- its items in a row ended it, or one of its imports did
abbrev pub IsEndedSo : (Ending → Type 0) → MethodError → SetCall → List Item → Progress → Type 0
IsEndedSo Why e call items before = IsEndedIn Why e call items before ⊎ SomeImportFails e call items before

-- Its items were done, and what they told can't be served: a place would pass the last one.
pub record HasNoPlaces (call : SetCall) (items : List Item) (before : Progress) : Type 0 where
  pub came : ItemsCame
  pub doing : List Event
  pub mid : Progress
  pub known : KnownMail
  pub does : DoesCourse call items before came doing mid
  pub ready : mid.machine.known ≡ Some known
  pub spent : IsSpent known

-- A call of a method that changes mail, which asks this over what has become of the mail and over these uploads, ended with this error: by a cause of it.
pub data EndsInError (uploads : List (List ℕ)) (m : SetMethod) (a : SetAsked) (h : MailHistory) (before : ChangeState) (items : List Item) : MethodError → Type 0 where
  InPart : IsEndedSo FailedPartly ServerPartialFail (call_of (item_checks uploads) m a h before.created) items before.progress
      → EndsInError uploads m a h before items ServerPartialFail
  Unavailable : IsEndedSo WasUnavailable ServerUnavailable (call_of (item_checks uploads) m a h before.created) items before.progress
      → EndsInError uploads m a h before items ServerUnavailable
  NoPlaces : HasNoPlaces (call_of (item_checks uploads) m a h before.created) items before.progress → EndsInError uploads m a h before items ServerFail

-- its items are these, in the order of RFC 8620 section 5.3
pub record IsEndedByCause (uploads : List (List ℕ)) (m : SetMethod) (a : SetAsked) (h : MailHistory) (before : ChangeState) (e : MethodError) : Type 0 where
  pub items : List Item
  pub are_of : ItemsOf m before.created a items
  pub ends : EndsInError uploads m a h before items e
