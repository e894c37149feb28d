use Rattle.std.proofs.Common.{◌≡◌, ◌-◌, length}
use Rattle.gate_world.specs.Causes.{FrontAlone}
use Rattle.gate_world.specs.Tape.{Adds}
use Rattle.http_service.proofs.ChunkLemmas.{Gathered, Keeps}
use Rattle.http_service.proofs.chunks.read_chunks.Given as goal

abbrev pub invariant-chunks : goal.invariant-chunks
invariant-chunks g l =
    record {
      tape : Adds (g.F.Taped.tape l.fn.front) (g.F.Taped.tape l.front) (Gathered l.fn.spare l.spare l.body.items l.excess);
      keeps : Keeps l.limit l.body.items l.excess;
      alone : FrontAlone (g.F.Taped.faults l.fn.front) (g.F.Taped.faults l.front);
      hidden : g.F.Taped.hidden l.front ≡ g.F.Taped.hidden l.fn.front;
    }

abbrev pub decreases-chunks : goal.decreases-chunks
decreases-chunks g l = l.limit - length l.body.items
