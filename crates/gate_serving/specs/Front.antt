-- What a client's input adds to the tape.
use Rattle.std.specs.Prelude.{◌≡◌, ◌⊎◌, ◌<◌, ◌≤◌, ◌++◌, ◌+◌, ℕ, List, [], ◌∷◌, length, Result, Ok, Err}
use Rattle.gate_world.specs.declared.event.Event.{Event}
use Rattle.gate_world.specs.declared.event.Event.TheVariants.{ClientEnded, FrontFailed}
use Rattle.gate_world.specs.declared.unread.FillError.{FillError}
use Rattle.gate_world.specs.declared.unread.FillError.TheVariants as fill
use Rattle.gate_world.specs.Octets.{Asks}
use Rattle.http_requests.specs.declared.ask.TheConstants.{MAX_REQUEST_OCTETS}
use Rattle.gate_serving.specs.declared.front.FrontError.{FrontError}
use Rattle.gate_serving.specs.declared.front.FrontError.TheVariants as front
use Rattle.gate_serving.specs.declared.front.Input.{Input}
use Rattle.gate_serving.specs.declared.front.Input.TheVariants.{Whole, Cut}

-- why the client is given up, where no octets came
abbrev pub error_of_fill : FillError → FrontError
error_of_fill fill.Failed = front.Failed
error_of_fill fill.Memory = front.Memory

abbrev pub input_octets : Input → List ℕ
input_octets (Whole octets) = octets
input_octets (Cut octets) = octets

-- The client gave these octets, fewer than the most, and ended; or it gave the most, and no more were read; or the front
-- failed before; or memory ran out on the way or at its end.
abbrev pub GivesInput : ℕ → Result Input FrontError → List Event → Type 0
GivesInput most (Ok (Whole octets)) events = (asks : List Event) × (events ≡ asks ++ ClientEnded ∷ []) × Asks octets asks × (length octets < most)
GivesInput most (Ok (Cut octets)) events = Asks octets events × (length octets ≡ most)
GivesInput most (Err front.Failed) events = (asks : List Event) × (gave : List ℕ) × (events ≡ asks ++ FrontFailed ∷ []) × Asks gave asks × (length gave < most)
GivesInput most (Err front.Memory) events = (asks : List Event) × (gave : List ℕ) × Asks gave asks × (length gave ≤ most)
    × ((events ≡ asks) ⊎ ((events ≡ asks ++ ClientEnded ∷ []) × (length gave < most)))

-- the most octets of a request's body
abbrev pub request_limit : ℕ
request_limit = MAX_REQUEST_OCTETS

-- What the client gives where a request is all of it: no more than one octet past the limit is read.
abbrev pub GivesRequest : Result Input FrontError → List Event → Type 0
GivesRequest result events = GivesInput (request_limit + 1) result events
