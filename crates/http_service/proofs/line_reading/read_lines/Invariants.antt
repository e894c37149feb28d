use Rattle.std.proofs.Common.{◌≡◌, ◌≤◌, ◌-◌, [], length, take}
use Rattle.gate_world.specs.Causes.{FrontAlone}
use Rattle.gate_world.specs.Tape.{Adds}
use Rattle.http_service.specs.declared.lines.TheConstants.{MAX_HEAD_OCTETS}
use Rattle.http_service.specs.Taking.{LinesOf, Takes, window}
use Rattle.http_service.specs.reading.LineEnds.{lines_of, start, run}
use Rattle.http_service.proofs.line_reading.read_lines.Given as goal

abbrev pub invariant-reading : goal.invariant-reading
invariant-reading g l =
    record {
      tape : Adds (g.F.Taped.tape l.fn.front) (g.F.Taped.tape l.front) (Takes (LinesOf (lines_of l.lines)) [] l.fn.spare l.spare);
      seen : l.seen ≤ length (window l.spare);
      place : l.place ≡ run (start l.lines) (take l.seen (window l.spare));
      alone : FrontAlone (g.F.Taped.faults l.fn.front) (g.F.Taped.faults l.front);
      hidden : g.F.Taped.hidden l.front ≡ g.F.Taped.hidden l.fn.front;
    }

abbrev pub decreases-reading : goal.decreases-reading
decreases-reading g l = MAX_HEAD_OCTETS - length l.spare
