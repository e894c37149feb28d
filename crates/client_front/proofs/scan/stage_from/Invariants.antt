use Rattle.std.proofs.Common.{◌≡◌, drop}
use Rattle.client_front.specs.Scanning.{stage_from}
use Rattle.client_front.proofs.scan.stage_from.Given as goal

-- all octets lead to what those that are left lead to from here
abbrev pub invariant-loop-octet : goal.invariant-loop-octet
invariant-loop-octet l = stage_from l.fn.stage l.octets ≡ stage_from l.stage (drop l.octet-index l.octets)
