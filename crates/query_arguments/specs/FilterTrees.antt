-- What a filter is: conditions, joined by operators.
use Rattle.std.specs.Prelude.{List, [], ◌∷◌}
use Rattle.query_lists.specs.Filters.{FilterTree, conditions, joined_by, FilterTrees, no_filters, filters}
use Rattle.query_arguments.specs.declared.filter.Filter.{Filter, fold-Filter}
use Rattle.query_arguments.specs.declared.filter.Filter.TheOpen.{Filter-F}

module _ {C : Type 0} where
  abbrev pub trees_of : List (FilterTree C) → FilterTrees C
  trees_of [] = no_filters
  trees_of (f ∷ fs) = filters f (trees_of fs)

  -- one level, with each filter inside already seen as its tree
  abbrev pub tree_step : Filter-F C (FilterTree C) → FilterTree C
  tree_step (Filter-F.Conditions v) = conditions v.items
  tree_step (Filter-F.Joined operator v) = joined_by operator (trees_of v.items)

  abbrev pub filter_tree : Filter C → FilterTree C
  filter_tree = fold-Filter C (FilterTree C) tree_step
