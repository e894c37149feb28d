use Rattle.std.proofs.Common.{◌≡◌, ◌+◌, ◌*◌, ◌≤◌, drop, length}
use Rattle.serde_json.specs.View.{items_view}
use Rattle.result_references.specs.References.{octets_of_path, walked_in, walked_at}
use Rattle.result_references.specs.declared.counted_octets.TheConstants.{MAX_RESOLVED_OCTETS}
use Rattle.result_references.specs.reading.Reaching.{segments_in}
use Rattle.result_references.proofs.walks.+walks.Given as goal

-- what is walked over in all items is that so far and that in the rest
abbrev pub invariant-walked_in-loop-item : goal.invariant-walked_in-loop-item
invariant-walked_in-loop-item l = (l.total ≤ MAX_RESOLVED_OCTETS)
    × (l.so_far + walked_in (octets_of_path (segments_in l.path)) (walked_at (segments_in l.path)) (items_view l.item-items)
    ≡ l.total + walked_in (octets_of_path (segments_in l.path)) (walked_at (segments_in l.path)) (items_view (drop l.item-index l.item-items)))

-- a step into a value leaves less of the path
abbrev pub decreases-walked_in : goal.decreases-walked_in
decreases-walked_in l = 2 * length l.path.now + 1

abbrev pub decreases-walked_at : goal.decreases-walked_at
decreases-walked_at l = 2 * length l.path.now
