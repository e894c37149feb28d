-- What a client gives, and why a session breaks off where nothing came.
use Rattle.std.specs.Prelude.{◌≡◌, ◌⊎◌, ℕ, ◌<◌, List, [], ◌∷◌, ◌++◌, length, Result, Ok, Err}
use Rattle.gate_world.specs.declared.event.Event.{Event}
use Rattle.gate_world.specs.declared.event.Event.TheVariants.{ClientGave, ClientEnded, FrontFailed}
use Rattle.gate_world.specs.declared.unread.FillError.{FillError}
use Rattle.gate_world.specs.declared.unread.FillError.TheVariants as fill
use Rattle.store_sessions.specs.declared.next.SessionError.{SessionError}
use Rattle.store_sessions.specs.declared.next.SessionError.TheVariants.{Failed, Memory}

abbrev pub error_of_fill : FillError → SessionError
error_of_fill fill.Failed = Failed
error_of_fill fill.Memory = Memory

-- these octets more stand unread; none where the client ended its input
abbrev pub Receives : List ℕ → List ℕ → Result ℕ SessionError → List Event → Type 0
Receives before after (Ok count) events = (gave : List ℕ) × (after ≡ before ++ gave) × (length gave ≡ count)
    × (((0 < count) × (events ≡ ClientGave gave ∷ [])) ⊎ ((count ≡ 0) × (events ≡ ClientEnded ∷ [])))
Receives before after (Err Failed) events = (after ≡ before) × (events ≡ FrontFailed ∷ [])
Receives before after (Err Memory) events = (after ≡ before) × (events ≡ [])
