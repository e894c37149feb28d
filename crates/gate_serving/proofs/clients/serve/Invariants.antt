use Rattle.std.proofs.Common.{◌-◌, ◌≡◌, ◌≤◌}
use Rattle.gate_world.specs.Causes.{Later}
use Rattle.gate_world.specs.Tape.{Adds}
use Rattle.gate_serving.specs.Run.{RunsTo}
use Rattle.gate_serving.specs.Gates.{Comes, RestStays, account_by}
use Rattle.gate_serving.proofs.clients.serve.Given as goal

abbrev pub invariant-serving : goal.invariant-serving
invariant-serving g l =
    record {
      run : Adds (g.W.Taped.tape l.fn.world) (g.W.Taped.tape l.world)
          (Comes l.fn.gate l.gate (λ s t. RunsTo l.fn.gate.door (account_by l.fn.gate (g.W.Taped.hidden l.fn.world)) s t l.count (g.W.Taped.faults l.fn.world)
          (g.W.Taped.faults l.world)));
      within : l.count ≤ l.fn.most;
      rest : RestStays l.fn.gate l.gate;
      later : Later (g.W.Taped.faults l.fn.world) (g.W.Taped.faults l.world);
      hidden : g.W.Taped.hidden l.world ≡ g.W.Taped.hidden l.fn.world;
    }

abbrev pub decreases-serving : goal.decreases-serving
decreases-serving g l = l.most - l.count
