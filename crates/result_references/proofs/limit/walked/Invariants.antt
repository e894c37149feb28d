use Rattle.std.proofs.Common.{◌≡◌, ◌+◌, ◌≤◌, map}
use Rattle.serde_json.specs.View.{members_view}
use Rattle.result_references.specs.Call.{call_data}
use Rattle.result_references.specs.References.{walked}
use Rattle.result_references.specs.declared.counted_octets.TheConstants.{MAX_RESOLVED_OCTETS}
use Rattle.result_references.proofs.limit.walked.Given as goal

-- what all walk over is the total and what the rest do
abbrev pub invariant-loop-key : goal.invariant-loop-key
invariant-loop-key l = (l.total ≤ MAX_RESOLVED_OCTETS)
    × (walked (map call_data l.earlier) (members_view l.members.entries) ≡ l.total + walked (map call_data l.earlier) (members_view l.key-iterator))
