-- Which clients the built program has.
use Rattle.std.specs.Prelude.{◌≡◌, None, false, IfSome, IsNone}
use Rattle.client_front.specs.Accepting.{nobody_yet, state}
use Rattle.jmapgate.specs.declared.Clientele.{Clientele}
use Rattle.jmapgate.specs.declared.Clientele.TheVariants as clientele
use Rattle.jmapgate.specs.declared.Listening.{Listening}
use Rattle.jmapgate.specs.declared.Listening.TheVariants as listening

-- The front is the one of those that are listened for, clients with requests or with sessions, and where nobody is the one of
-- standard input and output; it has not failed, and nobody has come.
abbrev pub AreListenedFor : Listening → Clientele → Type 0
AreListenedFor (listening.Requests address) (clientele.Requests front) =
    IfSome front.clients (λ clients. (state clients.acceptor ≡ nobody_yet clients.acceptor.listener clients.acceptor.clock) × IsNone clients.current)
    × (front.faults ≡ 0)
AreListenedFor (listening.Sessions address) (clientele.Sessions front) = (front.current ≡ None) × (front.faults ≡ 0)
AreListenedFor listening.Nobody (clientele.Standard front) = (front.has_come ≡ false) × (front.faults ≡ 0)
AreListenedFor _ _ = ⊥

-- the last that was asked of the clients was to end
abbrev pub AreEnded : {C : Type 0} → (C → C → Type 0) → C → Type 0
AreEnded {C} ends clients = (before : C) × ends before clients
