-- When the code's machine holds a machine.
use Rattle.std.specs.Prelude.{Option, Some, None}
use Rattle.gate_machine.specs.History.{KnownMail}
use Rattle.gate_machine.specs.Kept.{KeptMail, IsKeptOf}
use Rattle.gate_machine.specs.Machine.{MachineState}
use Rattle.gate_machine.specs.declared.machine.Machine.{Machine}

-- both are ready, and the one is kept of the other; or neither is
abbrev pub AreBothReady : Option KnownMail → Option KeptMail → Type 0
AreBothReady None None = Unit {0}
AreBothReady (Some k) (Some a) = IsKeptOf k a
AreBothReady None (Some a) = ⊥
AreBothReady (Some k) None = ⊥

-- the code's machine holds this one
pub record HoldsMachine (m : MachineState) (kept : Machine) : Type 0 where
  pub ready : AreBothReady m.known kept.known

-- the code's machine, once it isn't ready
abbrev pub unready : Machine → Machine
unready kept = record kept { known = None }
