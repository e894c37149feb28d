use Rattle.std.proofs.Common.{◌≡◌, ◌+◌, ◌*◌, drop, option_map, length}
use Rattle.serde_json.specs.View.{items_view}
use Rattle.result_references.specs.References.{at_segments, items_append, mapped}
use Rattle.result_references.specs.reading.Reaching.{segments_in}
use Rattle.result_references.proofs.pointer.+path.Given as goal

-- what all items give is what those so far gave, and then what the rest gives
abbrev pub invariant-at_each-loop-item : goal.invariant-at_each-loop-item
invariant-at_each-loop-item l = mapped (at_segments (segments_in l.path)) (items_view l.item-items)
    ≡ option_map (items_append (items_view l.found.items)) (mapped (at_segments (segments_in l.path)) (items_view (drop l.item-index l.item-items)))

-- a step into a value leaves less of the path
abbrev pub decreases-at_each : goal.decreases-at_each
decreases-at_each l = 2 * length l.path.now + 1

abbrev pub decreases-copy_at : goal.decreases-copy_at
decreases-copy_at l = 2 * length l.path.now
