use Rattle.std.proofs.Common.{◌≡◌, drop}
use Rattle.std.specs.List.{list_any}
use Rattle.query_core.specs.Lists.{reads_thread}
use Rattle.query_core.proofs.calculable.conditions_read_threads.Given as goal

abbrev pub invariant-loop-condition : goal.invariant-loop-condition
invariant-loop-condition l = list_any reads_thread (drop l.condition-index l.condition-items) ≡ list_any reads_thread l.condition-items
