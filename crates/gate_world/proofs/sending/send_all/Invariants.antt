use Rattle.std.proofs.Common.{◌≡◌, ◌++◌, ℕ, List, length}
use Rattle.gate_world.specs.Causes.{FrontAlone}
use Rattle.gate_world.specs.Octets.{Hears}
use Rattle.gate_world.specs.Tape.{Adds}
use Rattle.gate_world.proofs.sending.send_all.Given as goal

abbrev pub invariant-loop-rest : goal.invariant-loop-rest
invariant-loop-rest g l =
    record {
      tape : Adds (g.F.Taped.tape l.fn.front) (g.F.Taped.tape l.front) (λ es. (took : List ℕ) × Hears took es × (took ++ l.rest ≡ l.octets));
      alone : FrontAlone (g.F.Taped.faults l.fn.front) (g.F.Taped.faults l.front);
      hidden : g.F.Taped.hidden l.front ≡ g.F.Taped.hidden l.fn.front;
    }

abbrev pub decreases-loop-rest : goal.decreases-loop-rest
decreases-loop-rest g l = length l.rest
