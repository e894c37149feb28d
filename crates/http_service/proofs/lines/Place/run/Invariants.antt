use Rattle.std.proofs.Common.{◌≡◌, take}
use Rattle.http_service.specs.reading.LineEnds.{run}
use Rattle.http_service.proofs.lines.Place.run.Given as goal

abbrev pub invariant-loop-octet : goal.invariant-loop-octet
invariant-loop-octet l = l.place ≡ run l.fn.self (take l.octet-index l.octets)
