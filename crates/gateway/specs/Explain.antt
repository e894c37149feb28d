-- A client that is told a page of help.
use Rattle.std.specs.Prelude.{◌≡◌, ◌++◌, ℕ, List, [], ◌∷◌, Result, Ok, Err}
use Rattle.gate_world.specs.Sending.{Sends}
use Rattle.gate_world.specs.declared.event.Event.{Event}
use Rattle.gate_world.specs.declared.event.Event.TheVariants.{Accepted, NoMore, ClientDone, FrontFailed}
use Rattle.gate_world.specs.declared.outside.Failed.{Failed}
use Rattle.gate_serving.specs.declared.front.FrontError.{FrontError}
use Rattle.gate_serving.specs.declared.front.FrontError.TheVariants as front
use Rattle.gateway.specs.Show.{over_front}

-- One client that is told this text, or that there is none.
pub data Explains (text : List ℕ) (outcome : Result (Unit {0}) FrontError) (events : List Event) : Type 0 where
  NoneComes : events ≡ NoMore ∷ [] → outcome ≡ Ok tt → Explains text outcome events
  NotAccepted : events ≡ FrontFailed ∷ [] → outcome ≡ Err front.Failed → Explains text outcome events
  Told : (heard : List Event) (sent : Result (Unit {0}) Failed) → events ≡ Accepted ∷ (heard ++ ClientDone ∷ []) → Sends text sent heard
      → outcome ≡ over_front sent → Explains text outcome events

-- ---- what calls add

-- what a client that was accepted adds after its coming
abbrev pub TellsClient : List ℕ → Result (Unit {0}) Failed → List Event → Type 0
TellsClient text sent events = (heard : List Event) × (events ≡ heard ++ ClientDone ∷ []) × Sends text sent heard

abbrev pub ExplainsTo : List ℕ → Result (Unit {0}) Failed → List Event → Type 0
ExplainsTo text sent events = Explains text (over_front sent) events
