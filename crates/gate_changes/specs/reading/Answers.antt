-- What the code's answer to a call of a changing method says.
use Rattle.std.specs.Prelude.{◌≡◌, ◌≢◌, List, Some, Result, Ok, Err}
use Rattle.gate_world.specs.Causes.{Faults}
use Rattle.gate_world.specs.declared.event.Event.{Event}
use Rattle.serde_json.specs.Data.{Data}
use Rattle.serde_json.specs.View.{view}
use Rattle.serde_json.specs.declared.value.Value.{Value}
use Rattle.imap_client.specs.LinkLife.{LinkLife, ClientState}
use Rattle.jmap_core.specs.CreatedIds.{Ids}
use Rattle.jmap_arguments.specs.declared.method_error.MethodError.{MethodError}
use Rattle.jmap_arguments.specs.declared.method_error.MethodError.TheVariants.{Memory}
use Rattle.mail_state.specs.History.{MailHistory}
use Rattle.gate_machine.specs.History.{KnownMail}
use Rattle.gate_machine.specs.Progress.{Progress, CameTo}
use Rattle.gate_machine.specs.declared.machine.Machine.{Machine}
use Rattle.gate_machine.specs.declared.mail_status.MailStatus.{MailStatus}
use Rattle.set_arguments.specs.Arguments.{SetAsked}
use Rattle.set_arguments.specs.declared.set_method.SetMethod.{SetMethod}
use Rattle.set_calls.specs.declared.call.CallEnd.{CallEnd}
use Rattle.set_calls.specs.declared.call.CallEnd.TheVariants as ends
use Rattle.gate_changes.specs.Answering.{ChangeState, ChangesAsked, ItemChecks, LacksAsked}

-- the history is the one that is served, in what is left of the request's link life
pub record IsServed (h : MailHistory) (before : Progress) : Type 0 where
  pub known : KnownMail
  pub life : LinkLife
  pub ready : before.machine.known ≡ Some known
  pub in_life : before.left ≡ Some life
  pub served : h ≡ known.history

-- the error that a call ends with
abbrev pub error_of : CallEnd → MethodError
error_of (ends.Fails e) = e
error_of ends.Memory = Memory

abbrev pub answer_data : Result Value MethodError → Result Data MethodError
answer_data (Ok value) = Ok (view value)
answer_data (Err e) = Err e

-- The call is answered so, and the code is where that is.
pub record AnsweredSo (checks : ItemChecks) (m : SetMethod) (a : SetAsked) (h : MailHistory) (before : ChangeState) (result : Result Value MethodError) (created : Ids)
    (machine : Machine) (client : ClientState) (how : MailStatus) (was now : Faults) (events : List Event) : Type 0 where
  pub after : ChangeState
  pub changes : ChangesAsked checks m a h before (answer_data result) events after
  pub created_is : created ≡ after.created
  pub at : CameTo machine client how was now after.progress

-- Memory ran out in it, and the code is where that is.
pub record LackedSo (checks : ItemChecks) (m : SetMethod) (a : SetAsked) (h : MailHistory) (before : ChangeState) (machine : Machine) (client : ClientState)
    (how : MailStatus) (was now : Faults) (events : List Event) : Type 0 where
  pub after : Progress
  pub lacks : LacksAsked checks m a h before events after
  pub at : CameTo machine client how was now after

-- Where memory ran out the answer says so, and nowhere else.
pub record AnswersTo (checks : ItemChecks) (m : SetMethod) (a : SetAsked) (h : MailHistory) (before : ChangeState) (result : Result Value MethodError) (created : Ids)
    (machine : Machine) (client : ClientState) (how : MailStatus) (was now : Faults) (events : List Event) : Type 0 where
  pub lacks : result ≡ Err Memory → LackedSo checks m a h before machine client how was now events
  pub answered : result ≢ Err Memory → AnsweredSo checks m a h before result created machine client how was now events
