-- Clients of the store, one after another.
use Rattle.std.specs.Prelude.{◌≢◌, ℕ, ◌+◌, ◌<◌, List, [], ◌∷◌, ◌++◌, Result, Err}
use Rattle.gate_world.specs.Causes.{RoseBy}
use Rattle.gate_world.specs.declared.event.Event.{Event}
use Rattle.gate_world.specs.declared.event.Event.TheVariants.{Accepted, NoMore, FrontFailed}
use Rattle.honest_store.specs.Sessions.{StoreSession}
use Rattle.store_sessions.specs.declared.next.SessionError.{SessionError}
use Rattle.store_sessions.specs.declared.next.SessionError.TheVariants.{Failed, Memory}
use Rattle.store_sessions.specs.Sessions.{ServesClient}

-- how often the front failed with a client
abbrev pub failures_of : Result (Unit {0}) SessionError → ℕ
failures_of (Err Failed) = 1
failures_of _ = 0

-- So many clients were served, each to its end or until the front failed, and with so many of them the front failed.
pub data ServedSession (s : StoreSession) : ℕ → ℕ → List Event → StoreSession → Type 0 where
  NoneYet : ServedSession s 0 0 [] s
  OneMore : {count failed : ℕ} {events here : List Event} {t u : StoreSession} {how : Result (Unit {0}) SessionError} → ServedSession s count failed events t
      → ServesClient t here u how → how ≢ Err Memory → ServedSession s (count + 1) (failed + failures_of how) (events ++ (Accepted ∷ here)) u

-- The status after so many clients at most, and how often the front failed: they were served, or no more come; no client could be
-- accepted; memory ran out while one was served.
pub data ServesSessions (s : StoreSession) (most : ℕ) : ℕ → ℕ → List Event → StoreSession → Type 0 where
  AllServed : {failed : ℕ} {events : List Event} {t : StoreSession} → ServedSession s most failed events t → ServesSessions s most 0 failed events t
  NoneLeft : {count failed : ℕ} {events : List Event} {t : StoreSession} → count < most → ServedSession s count failed events t
      → ServesSessions s most 0 failed (events ++ NoMore ∷ []) t
  NotAccepted : {count failed : ℕ} {events : List Event} {t : StoreSession} → count < most → ServedSession s count failed events t
      → ServesSessions s most 6 (failed + 1) (events ++ FrontFailed ∷ []) t
  OutOfMemory : {count failed : ℕ} {events here : List Event} {t u : StoreSession} → count < most → ServedSession s count failed events t
      → ServesClient t here u (Err Memory) → ServesSessions s most 5 failed (events ++ (Accepted ∷ here)) u

-- the same, and the front's count of faults rose at least as often
pub record ServesAll (s t : StoreSession) (most : ℕ) (was now : ℕ) (status : ℕ) (events : List Event) : Type 0 where
  pub failed : ℕ
  pub serves : ServesSessions s most status failed events t
  pub rose : RoseBy failed was now
