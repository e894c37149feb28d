use Rattle.std.proofs.Common.{◌≡◌, drop, map}
use Rattle.query_arguments.specs.FilterTrees.{filter_tree, trees_of}
use Rattle.query_core.specs.Lists.{have_condition, reads_thread}
use Rattle.query_core.proofs.calculable.+reads.Given as goal

abbrev pub invariant-filters_read_threads-loop-filter : goal.invariant-filters_read_threads-loop-filter
invariant-filters_read_threads-loop-filter l =
    have_condition reads_thread (trees_of (map filter_tree (drop l.filter-index l.filter-items))) ≡ have_condition reads_thread (trees_of (map filter_tree l.filter-items))
