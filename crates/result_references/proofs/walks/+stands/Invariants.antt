use Rattle.std.proofs.Common.{◌≡◌, ◌+◌, ◌*◌, drop, length, is_some}
use Rattle.serde_json.specs.View.{items_view}
use Rattle.result_references.specs.References.{mapped, at_segments}
use Rattle.result_references.specs.reading.Reaching.{segments_in}
use Rattle.result_references.proofs.walks.+stands.Given as goal

-- something stands in all items where it does in the rest
abbrev pub invariant-stands_in_each-loop-item : goal.invariant-stands_in_each-loop-item
invariant-stands_in_each-loop-item l = is_some (mapped (at_segments (segments_in l.path)) (items_view l.item-items))
    ≡ is_some (mapped (at_segments (segments_in l.path)) (items_view (drop l.item-index l.item-items)))

-- a step into a value leaves less of the path
abbrev pub decreases-stands_in_each : goal.decreases-stands_in_each
decreases-stands_in_each l = 2 * length l.path.now + 1

abbrev pub decreases-stands_at : goal.decreases-stands_at
decreases-stands_at l = 2 * length l.path.now
