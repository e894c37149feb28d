-- Sessions and clients as they go on.
use Rattle.std.specs.Prelude.{◌≡◌, ℕ, ◌+◌, List}
use Rattle.gate_world.specs.Causes.{RoseBy}
use Rattle.gate_world.specs.declared.event.Event.{Event}
use Rattle.honest_store.specs.Sessions.{StoreSession}
use Rattle.store_sessions.specs.Sessions.{SoFar, octet_limit}
use Rattle.store_sessions.specs.Clients.{ServedSession}

-- steps so far, after which so many octets more may come
pub record Stands (s t : StoreSession) (unread : List ℕ) (left : ℕ) (events : List Event) : Type 0 where
  pub came : ℕ
  pub so_far : SoFar s events t unread came
  pub count : came + left ≡ octet_limit

-- clients so far, and the front's count of faults rose at least as often as it failed with one
pub record HaveBeen (s t : StoreSession) (count was now : ℕ) (events : List Event) : Type 0 where
  pub failed : ℕ
  pub served : ServedSession s count failed events t
  pub rose : RoseBy failed was now
