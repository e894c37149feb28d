-- What a gate holds between clients.
use Rattle.std.specs.Prelude.{ℕ, List, []}
use Rattle.gate_machine.specs.Machine.{MachineState, opened as opened_machine, forgotten as forgotten_machine}

-- the machine, and the uploads that are kept, oldest first
pub record GateState : Type 0 where
  pub machine : MachineState
  pub uploads : List (List ℕ)

-- a new gate in this epoch
abbrev pub new_state : ℕ → GateState
new_state epoch = record { machine = opened_machine epoch; uploads = [] }

-- its machine isn't ready
abbrev pub unready_state : GateState → GateState
unready_state s = record s { machine = forgotten_machine s.machine }
