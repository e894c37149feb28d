-- What sending octets to the client, or writing them to the store, adds to the tape.
use Rattle.std.specs.Prelude.{◌≡◌, ◌<◌, ◌++◌, ℕ, List, [], ◌∷◌, length, Result, Ok, Err}
use Rattle.gate_world.specs.declared.event.Event.{Event}
use Rattle.gate_world.specs.declared.event.Event.TheVariants.{FrontFailed, LinkEnded}
use Rattle.gate_world.specs.declared.outside.Failed.{Failed}
use Rattle.gate_world.specs.Octets.{Hears, Talk}

-- the client took these octets, or the front failed before it took them all
abbrev pub Sends : List ℕ → Result (Unit {0}) Failed → List Event → Type 0
Sends octets (Ok _) events = Hears octets events
Sends octets (Err _) events = (heard : List Event) × (took : List ℕ) × (rest : List ℕ) × (events ≡ heard ++ FrontFailed ∷ []) × Hears took heard
    × (took ++ rest ≡ octets) × (0 < length rest)

-- the store took these octets, or the link ended before it took them all
abbrev pub Writes : List ℕ → Result (Unit {0}) Failed → List Event → Type 0
Writes octets (Ok _) events = Talk [] octets events
Writes octets (Err _) events = (talk : List Event) × (took : List ℕ) × (rest : List ℕ) × (events ≡ talk ++ LinkEnded ∷ []) × Talk [] took talk
    × (took ++ rest ≡ octets) × (0 < length rest)
