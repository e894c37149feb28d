use Rattle.std.proofs.Common.{false, length}
use Rattle.thread_rule.proofs.IndexLemmas.{SetsSoFar}
use Rattle.thread_rule.proofs.index.remove_all.Given as goal

abbrev pub invariant-loop-id : goal.invariant-loop-id
invariant-loop-id l = SetsSoFar l.initial.index l.index l.base l.ids l.rest l.email false

abbrev pub decreases-loop-id : goal.decreases-loop-id
decreases-loop-id l = length l.rest
