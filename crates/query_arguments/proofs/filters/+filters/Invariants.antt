use Rattle.std.proofs.Common.{◌≡◌, ◌++◌, drop, map}
use Rattle.serde_json.specs.View.{items_view, members_view}
use Rattle.query_arguments.specs.Filters.{filters_in, joined_in}
use Rattle.query_arguments.specs.FilterTrees.{filter_tree}
use Rattle.query_arguments.specs.Readings.{reading_map}
use Rattle.query_arguments.proofs.filters.+filters.Given as goal

-- those so far, and those of the items that are left, are those of all
abbrev pub invariant-filters_in-loop-item : goal.invariant-filters_in-loop-item
invariant-filters_in-loop-item g l = filters_in g.C.Condition.condition_in (items_view l.item-items)
    ≡ map (reading_map filter_tree) l.parts.items ++ filters_in g.C.Condition.condition_in (items_view (drop l.item-index l.item-items))

-- what is joined of all members is what is joined of those that are left
abbrev pub invariant-joined_in-loop-key : goal.invariant-joined_in-loop-key
invariant-joined_in-loop-key g l = joined_in g.C.Condition.condition_in (members_view l.members.entries)
    ≡ joined_in g.C.Condition.condition_in (members_view l.key-iterator)
