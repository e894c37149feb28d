use Rattle.std.proofs.Common.{◌≡◌, ◌+◌, ◌*◌, ◌≤◌, drop, length}
use Rattle.serde_json.specs.View.{items_view}
use Rattle.result_references.specs.reading.Counting.{joined_in, joined_at}
use Rattle.result_references.specs.declared.counted_octets.TheConstants.{MAX_RESOLVED_OCTETS}
use Rattle.result_references.specs.reading.Reaching.{segments_in}
use Rattle.result_references.proofs.walks.+joined.Given as goal

-- the octets of all items are those so far and those of the rest
abbrev pub invariant-joined_in-loop-item : goal.invariant-joined_in-loop-item
invariant-joined_in-loop-item l = (l.total ≤ MAX_RESOLVED_OCTETS)
    × (l.so_far + joined_in (joined_at (segments_in l.path)) (items_view l.item-items)
    ≡ l.total + joined_in (joined_at (segments_in l.path)) (items_view (drop l.item-index l.item-items)))

-- a step into a value leaves less of the path
abbrev pub decreases-joined_in : goal.decreases-joined_in
decreases-joined_in l = 2 * length l.path.now + 1

abbrev pub decreases-joined_at : goal.decreases-joined_at
decreases-joined_at l = 2 * length l.path.now
