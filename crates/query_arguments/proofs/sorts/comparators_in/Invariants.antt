use Rattle.std.proofs.Common.{◌≡◌, ◌++◌, drop}
use Rattle.serde_json.specs.View.{items_view}
use Rattle.query_arguments.specs.Sorts.{comparators_in}
use Rattle.query_arguments.proofs.sorts.comparators_in.Given as goal

-- those so far, and those of the items that are left, are those of all
abbrev pub invariant-loop-item : goal.invariant-loop-item
invariant-loop-item g l = comparators_in g.S.Comparator.comparator_in (items_view l.item-items)
    ≡ l.parts.items ++ comparators_in g.S.Comparator.comparator_in (items_view (drop l.item-index l.item-items))
