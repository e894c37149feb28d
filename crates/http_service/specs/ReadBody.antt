-- What reading a body adds to the tape, and where it leaves the octets that came.
use Rattle.std.specs.Prelude.{◌≡◌, ◌<◌, ◌≤◌, ◌⊎◌, ◌++◌, ℕ, Bool, true, false, List, [], length, Result, Ok, Err, codes}
use Rattle.gate_world.specs.declared.event.Event.{Event}
use Rattle.gate_world.specs.declared.outside.Failed.{Failed}
use Rattle.gate_world.specs.Octets.{Hears}
use Rattle.gate_world.specs.Sending.{Sends}
use Rattle.http_service.specs.declared.head.BodyKind.{BodyKind}
use Rattle.http_service.specs.declared.head.BodyKind.TheVariants.{Length, Chunked}
use Rattle.http_service.specs.declared.error.HttpError.{HttpError}
use Rattle.http_service.specs.declared.error.HttpError.TheVariants.{TooLarge, FrontFault, Memory}
use Rattle.http_service.specs.Taking.{Due, Nothing, Takes, Breaks}
use Rattle.http_service.specs.ReadChunked.{DataStops, ReadsChunks}

-- why a body of n octets isn't read, where this was taken
abbrev pub LengthStops : ℕ → Due → List ℕ → HttpError → Type 0
LengthStops size due text e = ((text ≡ []) × DataStops size due e) ⊎ ((length text ≡ size) × (due ≡ Nothing) × (e ≡ Memory))

-- The body is n octets. None after them were asked for.
abbrev pub ReadsLength : ℕ → List ℕ → List ℕ → Result (List ℕ) HttpError → List Event → Type 0
ReadsLength size before after (Ok body) events = Takes Nothing body before after events × (length body ≡ size) × ((events ≡ []) ⊎ (after ≡ []))
ReadsLength size before after (Err e) events = Breaks (λ due text rest e. LengthStops size due text e) before after e events

-- the interim response that asks for the body (RFC 9110 section 15.2.1)
abbrev pub continue_text : List ℕ
continue_text = codes "HTTP/1.1 100 Continue\r\n\r\n"

-- the client is told to go on, where it waits for that
abbrev pub Continues : Bool → List Event → Type 0
Continues false events = events ≡ []
Continues true events = Hears continue_text events

-- the front failed as the client was told to go on
abbrev pub NotContinued : Bool → List Event → Type 0
NotContinued false events = ⊥
NotContinued true events = (failed : Failed) × Sends continue_text (Err failed) events

-- the client is told to go on where it waits for that, and then the body is read
abbrev pub ContinuesThen : Bool → List ℕ → List ℕ → Result (List ℕ) HttpError → (List Event → Type 0) → List Event → Type 0
ContinuesThen expects before after result Reads events =
    ((asked : List Event) × (reads : List Event) × (events ≡ asked ++ reads) × Continues expects asked × Reads reads)
    ⊎ ((result ≡ Err FrontFault) × (after ≡ before) × NotContinued expects events)

-- A length above the limit is refused before anything is sent or read.
abbrev pub ReadsBody : BodyKind → Bool → ℕ → List ℕ → List ℕ → Result (List ℕ) HttpError → List Event → Type 0
ReadsBody (Length size) expects limit before after result events =
    ((limit < size) × (result ≡ Err (TooLarge limit)) × (after ≡ before) × (events ≡ []))
    ⊎ ((size ≤ limit) × ContinuesThen expects before after result (ReadsLength size before after result) events)
ReadsBody Chunked expects limit before after result events = ContinuesThen expects before after result (ReadsChunks limit before after result) events
