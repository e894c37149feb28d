-- What the parts of answering a client add.
use Rattle.std.specs.Prelude.{◌≡◌, ◌≢◌, ◌⊎◌, ◌++◌, ℕ, false, List, [], ◌∷◌, Option, Some, None, Result, Ok, Err}
use Rattle.std.specs.declared.alloc.AllocError.{AllocError}
use Rattle.gate_world.specs.Causes.{Faults, Hidden, Rose}
use Rattle.gate_world.specs.Sending.{Sends}
use Rattle.gate_world.specs.declared.event.Event.{Event}
use Rattle.gate_world.specs.declared.event.Event.TheVariants.{Accepted}
use Rattle.gate_world.specs.declared.outside.Failed.{Failed}
use Rattle.http_requests.specs.declared.asking.AskError.TheVariants as unread
use Rattle.imap_exchange.specs.Answering.{HangsUp}
use Rattle.gate_machine.specs.Progress.{Progress, Bears, idle, is_up}
use Rattle.gate_machine.specs.Holding.{HoldsMachine}
use Rattle.gate_machine.specs.Machine.{MachineState, forgotten}
use Rattle.gate_machine.specs.declared.machine.Machine.{Machine}
use Rattle.gate_machine.specs.declared.mail_status.MailStatus.TheVariants.{OutOfMemory}
use Rattle.gate_serving.specs.declared.door.Door.{Door}
use Rattle.gate_serving.specs.declared.gate.Gate.{Gate}
use Rattle.gate_serving.specs.declared.response.Response.{Response}
use Rattle.gate_serving.specs.declared.outcomes.ClientOutcome.{ClientOutcome}
use Rattle.gate_serving.specs.declared.outcomes.ClientOutcome.TheVariants as served
use Rattle.gate_serving.specs.Answers.{Answer, KeepsUpload, MayKeepUpload, TakesMemory, spelled}
use Rattle.gate_serving.specs.Doing.{Does}
use Rattle.gate_serving.specs.GateState.{GateState}
use Rattle.gate_serving.specs.Gates.{account_by}
use Rattle.gate_serving.specs.Requests.{Account, Asking, ReadsAsking, asks_for_mail}
use Rattle.gate_serving.specs.Segment.{Replies, Segment, reply_blamed, blamed, went}
use Rattle.gate_serving.specs.RequestWork.{RequestWork}
use Rattle.gate_serving.specs.reading.Texts.{text_sent}

-- the response that is made by what is done; or none, where memory runs out
abbrev pub IsMadeBy : Door → Account → List (List ℕ) → Asking → Progress → List Event → Progress → Result Response AllocError → Type 0
IsMadeBy door account uploads asking begun doing answered (Ok response) =
    (answer : Answer) × Does account uploads asking begun doing answered (Some answer) × (text_sent response ≡ spelled door answer)
    × (answered.standing ≢ OutOfMemory)
IsMadeBy door account uploads asking begun doing answered (Err _) = Does account uploads asking begun doing answered None

-- the machine that is left: where there was no response it isn't ready
abbrev pub machine_left : Result Response AllocError → MachineState → MachineState
machine_left (Ok response) m = m
machine_left (Err _) m = forgotten m

-- What is asked is answered in the link life that there is, which is over then.
pub record Finishes (door : Door) (account : Account) (uploads : List (List ℕ)) (asking : Asking) (begun : Progress) (kept : Machine) (was now : Faults)
    (result : Result Response AllocError) (events : List Event) : Type 0 where
  pub answered : Progress
  pub doing : List Event
  pub ending : List Event
  pub hangs_up : HangsUp (is_up answered.left) ending
  pub whole : events ≡ doing ++ ending
  pub held : HoldsMachine (machine_left result answered.machine) kept
  pub bears : Bears answered.blamed was now
  pub made : IsMadeBy door account uploads asking begun doing answered result

-- the response to what needs no mail, by a gate that keeps what is uploaded
abbrev pub MakesAtOnce : Asking → Gate → Gate → Response → Type 0
MakesAtOnce asking before after response = KeepsUpload asking before.uploads after.uploads × ((secrets : Hidden) (m : MachineState)
    → asks_for_mail asking ≡ false → (answer : Answer) × Does (account_by after secrets) after.uploads asking (idle m) [] (idle m) (Some answer)
    × (text_sent response ≡ spelled after.door answer))

-- the response, by the work on it; or there was no memory for one that takes memory
abbrev pub IsMade : Door → Account → Asking → GateState → GateState → List Event → Progress → Result Response AllocError → Type 0
IsMade door account asking before after events done (Ok response) =
    (answer : Answer) × RequestWork account after.uploads before.machine asking events (Some answer) done × (text_sent response ≡ spelled door answer)
    × (done.standing ≢ OutOfMemory) × KeepsUpload asking before.uploads after.uploads
IsMade door account asking before after events done (Err _) = TakesMemory asking × RequestWork account before.uploads before.machine asking events None done

pub record AnswersTo (door : Door) (account : Account) (asking : Asking) (before after : GateState) (was now : Faults) (result : Result Response AllocError)
    (events : List Event) : Type 0 where
  pub done : Progress
  pub machine_is : after.machine ≡ machine_left result done.machine
  pub bears : Bears done.blamed was now
  pub may : MayKeepUpload asking before.uploads after.uploads
  pub made : IsMade door account asking before after events done result

-- the reply to what is asked, after the events by which it was read
pub record RepliesToAsking (door : Door) (account : Account) (asking : Asking) (before after : GateState) (was now : Faults) (text : List ℕ)
    (events : List Event) : Type 0 where
  pub of : (read : List Event) → ReadsAsking door account.token (Ok asking) read
      → (replies : Replies door account before (read ++ events) text after) × Bears (reply_blamed replies) was now

-- why there is no reply
abbrev pub IsUnread : Door → List ℕ → Faults → Faults → List Event → Type 0
IsUnread door token was now events =
    ReadsAsking door token (Err unread.Ended) events ⊎ (ReadsAsking door token (Err unread.Failed) events × Rose was.front now.front)

-- the reply to what was read, where there is one
abbrev pub RepliesBy : Door → Account → GateState → GateState → Faults → Faults → Option Response → List Event → Type 0
RepliesBy door account before after was now (Some response) events =
    (replies : Replies door account before events (text_sent response) after) × Bears (reply_blamed replies) was now
RepliesBy door account before after was now None events = IsUnread door account.token was now events × (after ≡ before)

-- the reply is sent, where there is one
abbrev pub SendsReply : Option Response → ClientOutcome → List Event → Type 0
SendsReply (Some response) how events = (sent : Result (Unit {0}) Failed) × Sends (text_sent response) sent events × (how ≡ went sent)
SendsReply None how events = (how ≡ served.Part) × (events ≡ [])

-- what a client that was accepted adds after its coming
pub record Serves (door : Door) (account : Account) (before after : GateState) (was now : Faults) (how : ClientOutcome) (events : List Event) : Type 0 where
  pub of : (all : List Event) → all ≡ Accepted ∷ events → (segment : Segment door account before all how after) × Bears (blamed segment) was now
