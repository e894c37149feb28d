use Rattle.std.proofs.Common.{◌≡◌, ◌++◌, ℕ, List, [], length}
use Rattle.gate_world.specs.Causes.{LinkAlone}
use Rattle.gate_world.specs.Octets.{Talk}
use Rattle.gate_world.specs.Tape.{Adds}
use Rattle.gate_world.proofs.sending.write_all.Given as goal

abbrev pub invariant-loop-rest : goal.invariant-loop-rest
invariant-loop-rest g l =
    record {
      tape : Adds (g.L.Taped.tape l.fn.link) (g.L.Taped.tape l.link) (λ es. (took : List ℕ) × Talk [] took es × (took ++ l.rest ≡ l.octets));
      alone : LinkAlone (g.L.Taped.faults l.fn.link) (g.L.Taped.faults l.link);
      hidden : g.L.Taped.hidden l.link ≡ g.L.Taped.hidden l.fn.link;
    }

abbrev pub decreases-loop-rest : goal.decreases-loop-rest
decreases-loop-rest g l = length l.rest
