-- What the gateway holds between requests, and how it changes.
use Rattle.std.specs.Prelude.{ℕ, Option, Some, None}
use Rattle.mail_state.specs.History.{first_history}
use Rattle.told_mail.specs.Told.{Told}
use Rattle.gate_machine.specs.History.{KnownMail, known_mail}

-- what is known of the mail, where the gateway is ready
pub record MachineState : Type 0 where
  pub known : Option KnownMail

-- a new machine in this epoch, or one that is ready again
abbrev pub opened : ℕ → MachineState
opened epoch = record { known = Some (known_mail (first_history epoch)) }

-- it was told this mail since
abbrev pub hearing : MachineState → KnownMail → Told → MachineState
hearing m k told = record m { known = Some (record k { told = told }) }

-- this is known from now on
abbrev pub committed : MachineState → KnownMail → MachineState
committed m k = record m { known = Some k }

-- it isn't ready
abbrev pub forgotten : MachineState → MachineState
forgotten m = record m { known = None }
