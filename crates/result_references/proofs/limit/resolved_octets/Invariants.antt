use Rattle.std.proofs.Common.{◌≡◌, ◌+◌, ◌≤◌, map}
use Rattle.serde_json.specs.View.{members_view}
use Rattle.result_references.specs.Call.{call_data}
use Rattle.result_references.specs.reading.Counting.{resolved_octets}
use Rattle.result_references.specs.declared.counted_octets.TheConstants.{MAX_RESOLVED_OCTETS}
use Rattle.result_references.proofs.limit.resolved_octets.Given as goal

-- the octets of all are the total and those of the rest
abbrev pub invariant-loop-key : goal.invariant-loop-key
invariant-loop-key l = (l.total ≤ MAX_RESOLVED_OCTETS)
    × (l.so_far + resolved_octets (map call_data l.earlier) (members_view l.members.entries) ≡ l.total + resolved_octets (map call_data l.earlier) (members_view l.key-iterator))
