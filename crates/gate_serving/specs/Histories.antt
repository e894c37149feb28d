-- The history that is served, from one moment of a run to a later one.
use Rattle.std.specs.Prelude.{◌≡◌, ◌⊎◌, ◌++◌, List, []}
use Rattle.gate_world.specs.declared.event.Event.{Event}
use Rattle.gate_machine.specs.Going.{MachineGoesOn}
use Rattle.gate_serving.specs.declared.door.Door.{Door}
use Rattle.gate_serving.specs.declared.outcomes.ClientOutcome.{ClientOutcome}
use Rattle.gate_serving.specs.GateState.{GateState}
use Rattle.gate_serving.specs.Requests.{Account}
use Rattle.gate_serving.specs.Run.{Run, Begun, Then}

-- Before the first client of a run, or after one of them, the gate held this, and these events came since then.
abbrev pub WasHeld : {door : Door} {account : Account} {before after : GateState} {events : List Event} {went : List ClientOutcome}
    → Run door account before events went after → GateState → List Event → Type 0
WasHeld {before = before} Begun s since = (s ≡ before) × (since ≡ [])
WasHeld (Then next run) s since = ((s ≡ next.after) × (since ≡ [])) ⊎ ((earlier : List Event) × WasHeld run s earlier × (since ≡ earlier ++ next.events))

-- From each moment before a client to the one after it the history that is served goes on, or the epoch that there is then was
-- drawn meanwhile. So a state that one client was told names the same map for each later one; or it is one of another epoch, and
-- names none, unless the very same word was drawn again.
abbrev pub IsRunKept : {door : Door} {account : Account} {before after : GateState} {events : List Event} {went : List ClientOutcome}
    → Run door account before events went after → Type 0
IsRunKept Begun = Unit {0}
IsRunKept (Then next run) =
    IsRunKept run × ((s : GateState) (since : List Event) → WasHeld run s since → MachineGoesOn s.machine (since ++ next.events) next.after.machine)

-- Each run of these events is so.
abbrev pub KeepsHistories : Door → Account → List Event → Type 0
KeepsHistories door account events = (before after : GateState) (went : List ClientOutcome) (run : Run door account before events went after) → IsRunKept run
