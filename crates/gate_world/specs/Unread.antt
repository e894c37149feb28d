-- What filling adds to the tape, and to the octets that aren't read yet.
use Rattle.std.specs.Prelude.{◌≡◌, ◌<◌, ◌≤◌, ◌++◌, ℕ, Bool, true, false, List, [], ◌∷◌, length, Result, Ok, Err}
use Rattle.gate_world.specs.declared.event.Event.{Event}
use Rattle.gate_world.specs.declared.event.Event.TheVariants.{ClientGave, ClientEnded, FrontFailed, StoreGave, LinkEnded}
use Rattle.gate_world.specs.declared.unread.FillError.{FillError}
use Rattle.gate_world.specs.declared.unread.FillError.TheVariants.{Failed, Memory}

-- some octets more stand at the end, and no more than these
abbrev pub Gains : ℕ → List ℕ → List ℕ → Type 0
Gains most before after = (gave : List ℕ) × (after ≡ before ++ gave) × (0 < length gave) × (length gave ≤ most)

-- The octets after one read of the link: some more, or those that stood there.
abbrev pub LinkFills : ℕ → List ℕ → List ℕ → Result (Unit {0}) FillError → Type 0
LinkFills most before after (Ok _) = Gains most before after
LinkFills most before after (Err _) = after ≡ before

-- The events of one read of the link: the store gave what stands at the end, the link failed, or none was asked.
abbrev pub LinkTells : List ℕ → List ℕ → Result (Unit {0}) FillError → List Event → Type 0
LinkTells before after (Ok _) events = (gave : List ℕ) × (after ≡ before ++ gave) × (events ≡ StoreGave gave ∷ [])
LinkTells before after (Err Failed) events = (after ≡ before) × (events ≡ LinkEnded ∷ [])
LinkTells before after (Err Memory) events = (after ≡ before) × (events ≡ [])

-- The octets after one call of the client: some more, or those that stood there.
abbrev pub ClientFills : ℕ → List ℕ → List ℕ → Result Bool FillError → Type 0
ClientFills most before after (Ok true) = Gains most before after
ClientFills most before after (Ok false) = after ≡ before
ClientFills most before after (Err _) = after ≡ before

-- The events of one call of the client: it gave what stands at the end, it ended its input, the front failed, or none was asked.
abbrev pub ClientTells : List ℕ → List ℕ → Result Bool FillError → List Event → Type 0
ClientTells before after (Ok true) events = (gave : List ℕ) × (after ≡ before ++ gave) × (events ≡ ClientGave gave ∷ [])
ClientTells before after (Ok false) events = (after ≡ before) × (events ≡ ClientEnded ∷ [])
ClientTells before after (Err Failed) events = (after ≡ before) × (events ≡ FrontFailed ∷ [])
ClientTells before after (Err Memory) events = (after ≡ before) × (events ≡ [])
