use Rattle.std.proofs.Common.{◌≡◌, false}
use Rattle.gate_world.specs.Causes.{LinkAlone, Rose}
use Rattle.imap_client.specs.LinkLife.{life_left}
use Rattle.imap_client.proofs.PlanSteps.{Course}
use Rattle.imap_client.proofs.following.follow_keeping.Given as goal

abbrev pub invariant-following : goal.invariant-following
invariant-following g l =
    record {
      course : Course g.P.Plan.plan g.P.Plan.hears l.fn.plan l.plan l.fn.client l.client (g.L.Taped.tape l.fn.link) (g.L.Taped.tape l.link);
      kept : g.P.Plan.keeps l.fn.plan l.plan;
      torn : l.torn ≡ false;
      down : l.client.alive ≡ false → Rose (g.L.Taped.faults l.fn.link).link (g.L.Taped.faults l.link).link;
      alone : LinkAlone (g.L.Taped.faults l.fn.link) (g.L.Taped.faults l.link);
      hidden : g.L.Taped.hidden l.link ≡ g.L.Taped.hidden l.fn.link;
    }

abbrev pub decreases-following : goal.decreases-following
decreases-following g l = life_left l.client
