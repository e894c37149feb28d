-- When a gate holds a state.
use Rattle.std.specs.Prelude.{◌≡◌, List, Some, None, Result, Ok, Err}
use Rattle.std.specs.declared.alloc.AllocError.{AllocError}
use Rattle.gate_world.specs.Causes.{Hidden}
use Rattle.gate_world.specs.declared.event.Event.{Event}
use Rattle.gate_machine.specs.Holding.{HoldsMachine}
use Rattle.gate_serving.specs.declared.gate.Gate.{Gate}
use Rattle.gate_serving.specs.GateState.{GateState}
use Rattle.gate_serving.specs.Requests.{Account}
use Rattle.gate_serving.specs.Run.{Opens}

-- who is served, where these are the outside's secrets
abbrev pub account_by : Gate → Hidden → Account
account_by gate secrets = record { user = gate.account.user; password = secrets.password; token = secrets.token; base = gate.account.base }

-- the code's gate holds this one
pub record GateHolds (s : GateState) (gate : Gate) : Type 0 where
  pub machine : HoldsMachine s.machine gate.machine
  pub uploads : gate.uploads ≡ s.uploads

-- Whatever the gate held before, it holds afterwards what it comes to so.
abbrev pub Comes : Gate → Gate → (GateState → GateState → List Event → Type 0) → List Event → Type 0
Comes before after So events = (s : GateState) → GateHolds s before → (t : GateState) × GateHolds t after × So s t events

-- what opening a gate adds, and that the gate holds what it opens
abbrev pub OpensTo : Result Gate AllocError → List Event → Type 0
OpensTo (Ok gate) events = (s : GateState) × GateHolds s gate × Opens (Some s) events
OpensTo (Err e) events = Opens None events

-- all but the machine and the uploads stays
pub record RestStays (before after : Gate) : Type 0 where
  pub door : after.door ≡ before.door
  pub account : after.account ≡ before.account
