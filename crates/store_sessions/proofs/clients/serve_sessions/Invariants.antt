use Rattle.std.proofs.Common.{◌-◌, ◌≡◌, ◌≤◌}
use Rattle.gate_world.specs.Causes.{FrontAlone}
use Rattle.gate_world.specs.Tape.{Adds}
use Rattle.small_responses.specs.Tellable.{IsTellableMail}
use Rattle.store_sessions.specs.reading.Going.{HaveBeen}
use Rattle.store_sessions.proofs.clients.serve_sessions.Given as goal

-- so many clients were served since the start
abbrev pub invariant-loop-count : goal.invariant-loop-count
invariant-loop-count g l =
    record {
      tape : Adds (g.F.Taped.tape l.fn.front) (g.F.Taped.tape l.front) (HaveBeen (g.S.CommandStore.session l.fn.store) (g.S.CommandStore.session l.store) l.count
          (g.F.Taped.faults l.fn.front).front (g.F.Taped.faults l.front).front);
      most : l.count ≤ l.fn.most;
      mail : IsTellableMail (g.S.CommandStore.session l.store).mail;
      alone : FrontAlone (g.F.Taped.faults l.fn.front) (g.F.Taped.faults l.front);
      hidden : g.F.Taped.hidden l.front ≡ g.F.Taped.hidden l.fn.front;
    }

abbrev pub decreases-loop-count : goal.decreases-loop-count
decreases-loop-count g l = l.most - l.count
