use Rattle.std.proofs.Common.{◌≡◌, length}
use Rattle.thread_rule.specs.Ids.{ids_in}
use Rattle.thread_rule.specs.Threads.{is_among}
use Rattle.thread_rule.proofs.search.has_id.Given as goal

abbrev pub invariant-loop-other : goal.invariant-loop-other
invariant-loop-other l = is_among (ids_in l.text) l.id ≡ is_among (ids_in l.rest) l.id

abbrev pub decreases-loop-other : goal.decreases-loop-other
decreases-loop-other l = length l.rest
