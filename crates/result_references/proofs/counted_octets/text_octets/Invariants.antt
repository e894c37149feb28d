use Rattle.std.proofs.Common.{◌≡◌, ◌+◌, ◌≤◌, drop, length}
use Rattle.json.specs.Print.{escape}
use Rattle.result_references.specs.declared.counted_octets.TheConstants.{MAX_RESOLVED_OCTETS}
use Rattle.result_references.proofs.counted_octets.text_octets.Given as goal

-- the quotation marks and the octets of all are the total and those of the rest
abbrev pub invariant-loop-octet : goal.invariant-loop-octet
invariant-loop-octet l = (l.total ≤ MAX_RESOLVED_OCTETS)
    × (l.so_far + (2 + length (escape l.octet-items)) ≡ l.total + length (escape (drop l.octet-index l.octet-items)))
