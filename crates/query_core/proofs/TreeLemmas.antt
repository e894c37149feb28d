-- The tree of a filter, by its variants.
use Rattle.std.proofs.Common.{◌≡◌, Vec, Global, map, sym, ap, ◌∙◌}
use Rattle.query_arguments.specs.FilterTrees.{filter_tree, trees_of}
use Rattle.query_arguments.specs.declared.filter.Filter.{Filter, fold-roll-Filter}
use Rattle.query_arguments.specs.declared.filter.Filter.TheVariants.{Conditions, Joined, rolls-Conditions, rolls-Joined}
use Rattle.query_lists.specs.Filters.{conditions, joined_by}
use Rattle.query_lists.specs.declared.filter.FilterOperator.{FilterOperator}

pub tree_of_conditions : {C : Type 0} (cs : Vec C Global) → filter_tree (Conditions cs) ≡ conditions cs.items
tree_of_conditions cs = ap filter_tree (sym (rolls-Conditions cs)) ∙ fold-roll-Filter _ _ _ _

pub tree_of_joined : {C : Type 0} (operator : FilterOperator) (fs : Vec (Filter C) Global) → filter_tree (Joined operator fs) ≡ joined_by operator (trees_of (map filter_tree fs.items))
tree_of_joined operator fs = ap filter_tree (sym (rolls-Joined operator fs)) ∙ fold-roll-Filter _ _ _ _
