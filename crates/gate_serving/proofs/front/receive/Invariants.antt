use Rattle.std.proofs.Common.{◌≡◌, ◌≤◌, ◌-◌, length}
use Rattle.gate_world.specs.Causes.{FrontAlone}
use Rattle.gate_world.specs.Octets.{Asks}
use Rattle.gate_world.specs.Tape.{Adds}
use Rattle.gate_serving.proofs.front.receive.Given as goal

abbrev pub invariant-receiving : goal.invariant-receiving
invariant-receiving g l =
    record {
      tape : Adds (g.F.Taped.tape l.fn.front) (g.F.Taped.tape l.front) (Asks l.octets);
      within : length l.octets ≤ l.most;
      alone : FrontAlone (g.F.Taped.faults l.fn.front) (g.F.Taped.faults l.front);
      hidden : g.F.Taped.hidden l.front ≡ g.F.Taped.hidden l.fn.front;
    }

abbrev pub decreases-receiving : goal.decreases-receiving
decreases-receiving g l = l.most - length l.octets
