-- What one client of the store is told: a greeting, and the answer to each command that its octets are (RFC 9051 sections 3 and 7.1.1).
use Rattle.std.specs.Prelude.{◌≡◌, ℕ, ◌+◌, ◌<◌, ◌≤◌, ◌^◌, List, [], ◌∷◌, ◌++◌, length, drop, codes, Result, Ok, Err}
use Rattle.gate_world.specs.declared.event.Event.{Event}
use Rattle.gate_world.specs.declared.event.Event.TheVariants.{ClientGave, ClientEnded, ClientDone, FrontFailed}
use Rattle.gate_world.specs.declared.outside.Failed.{Failed as OutsideFailed}
use Rattle.gate_world.specs.Sending.{Sends}
use Rattle.honest_store.specs.Sessions.{StoreSession}
use Rattle.small_answers.specs.Answers.{unselected}
use Rattle.store_sessions.specs.declared.next.SessionError.{SessionError}
use Rattle.store_sessions.specs.declared.next.SessionError.TheVariants.{Failed, Memory}
use Rattle.store_sessions.specs.declared.next.Next.{Next}
use Rattle.store_sessions.specs.declared.next.Next.TheVariants as next
use Rattle.store_sessions.specs.declared.turn.Turn.{Turn}
use Rattle.store_sessions.specs.declared.turn.Turn.TheVariants as turn
use Rattle.store_sessions.specs.Turns.{Lacks, Turns, octets_read, octets_told}

abbrev pub greeting : List ℕ
greeting = codes "* OK ready\r\n"

-- the most octets that one client may give
abbrev pub octet_limit : ℕ
octet_limit = 2 ^ 40

-- x, or Failed where the front failed
abbrev pub over_front : {X : Type 0} → X → Result (Unit {0}) OutsideFailed → Result X SessionError
over_front x (Ok _) = Ok x
over_front x (Err _) = Err Failed

-- how the session goes on
abbrev pub next_of : Turn → Next
next_of (turn.Answer length octets) = next.Read
next_of turn.GoAhead = next.Wait
next_of turn.Wait = next.Wait
next_of turn.End = next.End

-- One step: what stands unread is read once, and what is told of it is sent; or memory is wanting for that.
pub data Steps (s : StoreSession) (unread : List ℕ) : StoreSession → List ℕ → Result Next SessionError → List Event → Type 0 where
  Told : {after : StoreSession} {events : List Event} (taken : Turn) (sent : Result (Unit {0}) OutsideFailed) → Turns s unread after taken
      → Sends (octets_told taken) sent events → Steps s unread after (drop (octets_read taken) unread) (over_front (next_of taken) sent) events
  Lacking : {after : StoreSession} → Lacks s unread after → Steps s unread after unread (Err Memory) []

-- Steps one after another, up to where octets are read again: what was told, the session, what stands unread, and how many octets
-- the client gave in all.
pub data SoFar (s : StoreSession) : List Event → StoreSession → List ℕ → ℕ → Type 0 where
  Begun : SoFar s [] s [] 0
  Read : {events here : List Event} {t u : StoreSession} {unread rest : List ℕ} {came : ℕ} → SoFar s events t unread came
      → Steps t unread u rest (Ok next.Read) here → SoFar s (events ++ here) u rest came
  Came : {events here : List Event} {t u : StoreSession} {unread rest : List ℕ} {came : ℕ} (gave : List ℕ) → 0 < length gave → came + length gave ≤ octet_limit
      → SoFar s events t unread came
      → Steps t unread u rest (Ok next.Wait) here → SoFar s (events ++ (here ++ ClientGave gave ∷ [])) u (rest ++ gave) (came + length gave)

-- How it ends where octets are waited for, after so many: the client may give no more, it ended its input, the front failed, or there is no
-- memory for more octets.
pub data EndsWaiting (came : ℕ) : List Event → Result (Unit {0}) SessionError → Type 0 where
  Full : came ≡ octet_limit → EndsWaiting came [] (Ok tt)
  InputEnded : came < octet_limit → EndsWaiting came (ClientEnded ∷ []) (Ok tt)
  ReceiveFailed : came < octet_limit → EndsWaiting came (FrontFailed ∷ []) (Err Failed)
  NoRoom : came < octet_limit → EndsWaiting came [] (Err Memory)

-- All that follows the greeting: it ends where octets are waited for, where no command begins with what the client gave, or breaks off.
pub data Session (s : StoreSession) : List Event → StoreSession → Result (Unit {0}) SessionError → Type 0 where
  Waited : {events here last : List Event} {t u : StoreSession} {unread rest : List ℕ} {came : ℕ} {how : Result (Unit {0}) SessionError}
      → SoFar s events t unread came → Steps t unread u rest (Ok next.Wait) here → EndsWaiting came last how → Session s (events ++ (here ++ last)) u how
  NoCommand : {events here : List Event} {t u : StoreSession} {unread rest : List ℕ} {came : ℕ} → SoFar s events t unread came
      → Steps t unread u rest (Ok next.End) here → Session s (events ++ here) u (Ok tt)
  Broken : {events here : List Event} {t u : StoreSession} {unread rest : List ℕ} {came : ℕ} {error : SessionError} → SoFar s events t unread came
      → Steps t unread u rest (Err error) here → Session s (events ++ here) u (Err error)

-- A client that came is greeted, and then its session follows; or the front failed while it was greeted.
pub data GreetsClient (s : StoreSession) : List Event → StoreSession → Result (Unit {0}) SessionError → Type 0 where
  Greeted : {hello events : List Event} {t : StoreSession} {how : Result (Unit {0}) SessionError} → Sends greeting (Ok tt) hello
      → Session (unselected s) events t how → GreetsClient s (hello ++ events) t how
  NotGreeted : {hello : List Event} {failed : OutsideFailed} → Sends greeting (Err failed) hello → GreetsClient s hello (unselected s) (Err Failed)

-- the same, and nothing more is sent to it
abbrev pub ServesClient : StoreSession → List Event → StoreSession → Result (Unit {0}) SessionError → Type 0
ServesClient s events t how = (served : List Event) × GreetsClient s served t how × (events ≡ served ++ ClientDone ∷ [])
