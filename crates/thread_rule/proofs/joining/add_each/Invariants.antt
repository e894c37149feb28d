use Rattle.std.proofs.Common.{length}
use Rattle.thread_rule.proofs.JoiningLemmas.{JoinsSoFar}
use Rattle.thread_rule.proofs.joining.add_each.Given as goal

abbrev pub invariant-loop-id : goal.invariant-loop-id
invariant-loop-id l = JoinsSoFar l.initial.index l.index l.members.entries l.fn.secret l.named.base l.named.email l.named.ids l.rest l.found

abbrev pub decreases-loop-id : goal.decreases-loop-id
decreases-loop-id l = length l.rest
