use Rattle.std.proofs.Common.{◌≡◌, ◌≤◌, ◌⊎◌, ◌-◌, [], length}
use Rattle.gate_world.specs.Causes.{FrontAlone}
use Rattle.gate_world.specs.Tape.{Adds}
use Rattle.http_service.specs.Taking.{Octets, Takes}
use Rattle.http_service.proofs.filling.fill_to.Given as goal

abbrev pub invariant-filling : goal.invariant-filling
invariant-filling g l =
    record {
      tape : Adds (g.F.Taped.tape l.fn.front) (g.F.Taped.tape l.front) (λ es. Takes (Octets l.size) [] l.fn.spare l.spare es × ((es ≡ []) ⊎ (length l.spare ≤ l.size)));
      alone : FrontAlone (g.F.Taped.faults l.fn.front) (g.F.Taped.faults l.front);
      hidden : g.F.Taped.hidden l.front ≡ g.F.Taped.hidden l.fn.front;
    }

abbrev pub decreases-filling : goal.decreases-filling
decreases-filling g l = l.size - length l.spare
