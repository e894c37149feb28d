use Rattle.std.proofs.Common.{sym, subst}
use Rattle.gate_machine.specs.Holding.{HoldsMachine}
use Rattle.gate_machine.specs.Machine.{forgotten}
use Rattle.gate_machine.specs.declared.machine.Machine.{Machine}
use Rattle.gate_serving.proofs.gate.Gate.lack.Goals as goal

pub returns-clause-state : goal.returns-clause-state
returns-clause-state c = λ s held.
    record {
      machine = subst (λ (kept : Machine). HoldsMachine (forgotten s.machine) kept) (sym c.forget.ensures) (record { ready = tt });
      uploads = held.uploads;
    }
