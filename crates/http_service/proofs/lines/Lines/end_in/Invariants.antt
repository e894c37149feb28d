use Rattle.std.proofs.Common.{◌≡◌, take}
use Rattle.http_service.specs.reading.LineEnds.{start, run}
use Rattle.http_service.proofs.lines.Lines.end_in.Given as goal

abbrev pub invariant-loop-at : goal.invariant-loop-at
invariant-loop-at l = l.place ≡ run (start l.fn.self) (take l.at l.octets)
