-- One client, from its coming to the end of the answer to it (RFC 8620 section 3.3).
use Rattle.std.specs.Prelude.{◌≡◌, ◌≢◌, ◌+◌, ◌++◌, ℕ, List, [], ◌∷◌, Some, None, Result, Ok, Err}
use Rattle.gate_world.specs.Causes.{Faults, no_faults}
use Rattle.gate_world.specs.Sending.{Sends}
use Rattle.gate_world.specs.declared.event.Event.{Event}
use Rattle.gate_world.specs.declared.event.Event.TheVariants.{Accepted, NoMore, ClientDone, FrontFailed}
use Rattle.gate_world.specs.declared.outside.Failed.{Failed}
use Rattle.http_requests.specs.declared.asking.AskError.TheVariants as unread
use Rattle.gate_machine.specs.Machine.{forgotten as forgotten_machine}
use Rattle.gate_machine.specs.Progress.{Progress}
use Rattle.gate_machine.specs.declared.mail_status.MailStatus.TheVariants.{OutOfMemory}
use Rattle.gate_serving.specs.declared.door.Door.{Door}
use Rattle.gate_serving.specs.declared.outcomes.ClientOutcome.{ClientOutcome}
use Rattle.gate_serving.specs.declared.outcomes.ClientOutcome.TheVariants as served
use Rattle.gate_serving.specs.Answers.{Answer, KeepsUpload, MayKeepUpload, TakesMemory, no_memory_text, spelled}
use Rattle.gate_serving.specs.GateState.{GateState, unready_state}
use Rattle.gate_serving.specs.Requests.{Account, Asking, ReadsAsking}
use Rattle.gate_serving.specs.RequestWork.{RequestWork}

-- how a client was served whose response was sent so
abbrev pub went : Result (Unit {0}) Failed → ClientOutcome
went (Ok _) = served.Whole
went (Err _) = served.Part

-- The request is read, worked on and answered.
pub record AnswersAsking (door : Door) (account : Account) (before : GateState) (events : List Event) (text : List ℕ) (after : GateState) : Type 0 where
  pub asked : List Event
  pub worked : List Event
  pub asking : Asking
  pub answer : Answer
  pub done : Progress
  pub whole : events ≡ asked ++ worked
  pub reads : ReadsAsking door account.token (Ok asking) asked
  pub work : RequestWork account after.uploads before.machine asking worked (Some answer) done
  pub stands : done.standing ≢ OutOfMemory
  pub machine_is : after.machine ≡ done.machine
  pub keeps : KeepsUpload asking before.uploads after.uploads
  pub text_is : text ≡ spelled door answer

-- Memory runs out after a request was read whose response takes memory: in the link life, while what it told was to be served, in a call, or while
-- the response was made. What was asked of the outside by then was due. An upload may be kept then.
pub record LacksForAsking (door : Door) (account : Account) (before : GateState) (events : List Event) (text : List ℕ) (after : GateState) : Type 0 where
  pub asked : List Event
  pub worked : List Event
  pub asking : Asking
  pub done : Progress
  pub whole : events ≡ asked ++ worked
  pub reads : ReadsAsking door account.token (Ok asking) asked
  pub takes : TakesMemory asking
  pub work : RequestWork account before.uploads before.machine asking worked None done
  pub text_is : text ≡ no_memory_text door
  pub machine_is : after.machine ≡ forgotten_machine done.machine
  pub may_keep : MayKeepUpload asking before.uploads after.uploads

-- The text that a client is sent, and what the gate holds after it: the answer; or that memory ran out, while the request was
-- read or after that.
pub data Replies (door : Door) (account : Account) (before : GateState) (events : List Event) (text : List ℕ) (after : GateState) : Type 0 where
  Answered : AnswersAsking door account before events text after → Replies door account before events text after
  LacksReading : ReadsAsking door account.token (Err unread.Memory) events → text ≡ no_memory_text door → after ≡ unready_state before
      → Replies door account before events text after
  LacksAnswering : LacksForAsking door account before events text after → Replies door account before events text after

-- A client that comes is sent its reply.
pub record SendsToClient (door : Door) (account : Account) (before : GateState) (events : List Event) (how : ClientOutcome) (after : GateState) : Type 0 where
  pub replied : List Event
  pub heard : List Event
  pub text : List ℕ
  pub sent : Result (Unit {0}) Failed
  pub whole : events ≡ Accepted ∷ ((replied ++ heard) ++ ClientDone ∷ [])
  pub replies : Replies door account before replied text after
  pub sends : Sends text sent heard
  pub how_is : how ≡ went sent

-- One client, or that there is none.
pub data Segment (door : Door) (account : Account) (before : GateState) (events : List Event) (how : ClientOutcome) (after : GateState) : Type 0 where
  NoneComes : events ≡ NoMore ∷ [] → how ≡ served.NoMore → after ≡ before → Segment door account before events how after
  NotAccepted : events ≡ FrontFailed ∷ [] → how ≡ served.AcceptFault → after ≡ before → Segment door account before events how after
  -- it ended its input inside its request
  Left : (asked : List Event) → events ≡ Accepted ∷ (asked ++ ClientDone ∷ []) → ReadsAsking door account.token (Err unread.Ended) asked → how ≡ served.Part
      → after ≡ before → Segment door account before events how after
  -- the front failed before the request's end
  Unasked : (asked : List Event) → events ≡ Accepted ∷ (asked ++ ClientDone ∷ []) → ReadsAsking door account.token (Err unread.Failed) asked → how ≡ served.Part
      → after ≡ before → Segment door account before events how after
  Replied : SendsToClient door account before events how after → Segment door account before events how after

-- ---- blame

abbrev pub unsent : Result (Unit {0}) Failed → ℕ
unsent (Ok _) = 0
unsent (Err _) = 1

abbrev pub blame_front : ℕ → Faults → Faults
blame_front n f = record f { front = f.front + n }

-- the faults that a reply is blamed on
abbrev pub reply_blamed : {door : Door} {account : Account} {before : GateState} {events : List Event} {text : List ℕ} {after : GateState}
    → Replies door account before events text after → Faults
reply_blamed (Answered a) = a.done.blamed
reply_blamed (LacksReading a b c) = no_faults
reply_blamed (LacksAnswering a) = a.done.blamed

-- The faults that a segment is blamed on, of each part of the outside. None has its fault in a client that leaves.
abbrev pub blamed : {door : Door} {account : Account} {before : GateState} {events : List Event} {how : ClientOutcome} {after : GateState}
    → Segment door account before events how after → Faults
blamed (NoneComes a b c) = no_faults
blamed (NotAccepted a b c) = blame_front 1 no_faults
blamed (Left asked a b c d) = no_faults
blamed (Unasked asked a b c d) = blame_front 1 no_faults
blamed (Replied a) = blame_front (unsent a.sent) (reply_blamed a.replies)
