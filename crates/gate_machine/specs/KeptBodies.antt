-- Where the bodies that are kept come from: fetches told them (RFC 8621 section 4.2).
use Rattle.std.specs.Prelude.{◌≡◌, ◌⊎◌, ℕ, List, [], ◌∷◌, Option, Some}
use Rattle.gate_world.specs.declared.event.Event.{Event}
use Rattle.email_bodies.specs.Asking.{BodyAsk}
use Rattle.email_bodies.specs.Keeping.{Bodies}
use Rattle.email_bodies.specs.declared.source.MessagePlace.{MessagePlace}
use Rattle.gate_machine.specs.Fetching.{AsksBody, IsKept, IsTold, Ends, HasEnded, AsksBodies, NoBodies, MoreBodies, CallsAsk, AllAsked, RunsShort}
use Rattle.gate_machine.specs.History.{KnownMail}
use Rattle.gate_machine.specs.Machine.{MachineState}
use Rattle.gate_machine.specs.Progress.{Progress}

-- these octets are kept as the body of this Email
abbrev pub IsAmong : ℕ × List ℕ → Bodies → Type 0
IsAmong b [] = ⊥
IsAmong b (x ∷ xs) = (b ≡ x) ⊎ IsAmong b xs

abbrev pub KeepsBody : MachineState → ℕ × List ℕ → Type 0
KeepsBody m b = (k : KnownMail) × (m.known ≡ Some k) × IsAmong b k.bodies

-- a fetch of the Email's message told them
abbrev pub TellsBody : {message : MessagePlace} {before : Progress} {body : Option (List ℕ)} {events : List Event} {after : Progress}
    → AsksBody message before body events after → ℕ × List ℕ → Type 0
TellsBody (IsKept octets kept a c d) b = ⊥
TellsBody {message = message} (IsTold octets asks a c) b = b ≡ (message.email, octets)
TellsBody (Ends e asks a c d) b = ⊥
TellsBody (HasEnded a c d e f) b = ⊥

-- one of these did
abbrev pub TellBody : {before : Progress} {asks : List BodyAsk} {events : List Event} {after : Progress}
    → AsksBodies before asks events after → ℕ × List ℕ → Type 0
TellBody NoBodies b = ⊥
TellBody (MoreBodies next bodies) b = TellBody bodies b ⊎ TellsBody next.asks b

-- one for the calls of a request did
abbrev pub CallsTell : {before : Progress} {asks : List BodyAsk} {events : List Event} {after : Progress}
    → CallsAsk before asks events after → ℕ × List ℕ → Type 0
CallsTell (AllAsked bodies) b = TellBody bodies b
CallsTell (RunsShort short) b = TellBody short.asked b
