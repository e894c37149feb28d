use Rattle.std.proofs.Common.{◌≡◌, ◌+◌, ◌≤◌, drop}
use Rattle.serde_json.specs.View.{items_view, members_view}
use Rattle.result_references.specs.reading.Counting.{item_octets, member_octets}
use Rattle.result_references.specs.declared.counted_octets.TheConstants.{MAX_RESOLVED_OCTETS}
use Rattle.result_references.proofs.counted_octets.+octets.Given as goal

-- the octets of all are those so far and those of the rest
abbrev pub invariant-items_octets-loop-item : goal.invariant-items_octets-loop-item
invariant-items_octets-loop-item l = (l.total ≤ MAX_RESOLVED_OCTETS)
    × (l.so_far + item_octets (items_view l.item-items) ≡ l.total + item_octets (items_view (drop l.item-index l.item-items)))

abbrev pub invariant-members_octets-loop-key : goal.invariant-members_octets-loop-key
invariant-members_octets-loop-key l = (l.total ≤ MAX_RESOLVED_OCTETS)
    × (l.so_far + member_octets (members_view l.members.entries) ≡ l.total + member_octets (members_view l.key-iterator))
