-- A client that gives a message, and is shown the message's Email object (RFC 8621 section 4.9).
use Rattle.std.specs.Prelude.{◌≡◌, ◌++◌, ℕ, List, [], ◌∷◌, Result, Ok, Err}
use Rattle.serde_json.specs.Data.{Data}
use Rattle.serde_json.specs.Written.{compact_text}
use Rattle.gate_world.specs.declared.event.Event.{Event}
use Rattle.gate_world.specs.declared.event.Event.TheVariants.{Accepted, NoMore, ClientDone, FrontFailed}
use Rattle.gate_world.specs.declared.outside.Failed.{Failed}
use Rattle.email_objects.specs.EmailObjects.{IsShownObject}
use Rattle.gate_serving.specs.declared.front.FrontError.{FrontError}
use Rattle.gate_serving.specs.declared.front.FrontError.TheVariants as front
use Rattle.gate_serving.specs.declared.front.Input.{Input}
use Rattle.gate_world.specs.Sending.{Sends}
use Rattle.gate_serving.specs.Front.{input_octets, GivesInput}
use Rattle.gate_serving.specs.Answers.{line_end}

-- the most octets of a message
abbrev pub message_limit : ℕ
message_limit = 50000000

-- the object as compact JSON, and a line end
unfoldable pub object_line : Data → List ℕ
object_line email = compact_text email ++ line_end

-- the line shows the Email object of these octets
abbrev pub ShowsObject : List ℕ → List ℕ → Type 0
ShowsObject octets line = (email : Data) × IsShownObject octets email × (line ≡ object_line email)

-- the message is read and its line made; or the front failed before its end; or memory ran out while it was read or
-- after that
abbrev pub ReadsInput : Result (List ℕ) FrontError → List Event → Type 0
ReadsInput (Ok line) events = (input : Input) × GivesInput message_limit (Ok input) events × ShowsObject (input_octets input) line
ReadsInput (Err front.Failed) events = GivesInput message_limit (Err front.Failed) events
ReadsInput (Err front.Memory) events = (input : Result Input FrontError) × GivesInput message_limit input events × (input ≡ Err front.Failed → ⊥)

-- what is left of a call of the front
abbrev pub over_front : Result (Unit {0}) Failed → Result (Unit {0}) FrontError
over_front (Ok _) = Ok tt
over_front (Err _) = Err front.Failed

-- The message is read, and the line that shows it is sent.
pub record SendsLine (outcome : Result (Unit {0}) FrontError) (events : List Event) : Type 0 where
  pub reading : List Event
  pub heard : List Event
  pub line : List ℕ
  pub sent : Result (Unit {0}) Failed
  pub whole : events ≡ reading ++ heard
  pub reads : ReadsInput (Ok line) reading
  pub sends : Sends line sent heard
  pub outcome_is : outcome ≡ over_front sent

-- What comes of a message. Where memory runs out or the front fails before the message's end, nothing is sent.
pub data AnswersShow (outcome : Result (Unit {0}) FrontError) (events : List Event) : Type 0 where
  Unread : (e : FrontError) → ReadsInput (Err e) events → outcome ≡ Err e → AnswersShow outcome events
  Sent : SendsLine outcome events → AnswersShow outcome events

-- One client that gives a message, or that there is none.
pub data Shows (outcome : Result (Unit {0}) FrontError) (events : List Event) : Type 0 where
  NoneComes : events ≡ NoMore ∷ [] → outcome ≡ Ok tt → Shows outcome events
  NotAccepted : events ≡ FrontFailed ∷ [] → outcome ≡ Err front.Failed → Shows outcome events
  Came : (answered : List Event) → events ≡ Accepted ∷ (answered ++ ClientDone ∷ []) → AnswersShow outcome answered → Shows outcome events

-- what a client that was accepted adds
abbrev pub ShowsClient : Result (Unit {0}) FrontError → List Event → Type 0
ShowsClient outcome events = Shows outcome (Accepted ∷ events)
