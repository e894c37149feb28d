use Rattle.std.proofs.Common.{length}
use Rattle.thread_rule.proofs.LowerLemmas.{FedSoFar}
use Rattle.thread_rule.proofs.key.feed_lower.Given as goal

-- what is left comes after what was fed
abbrev pub invariant-loop-rest : goal.invariant-loop-rest
invariant-loop-rest l = FedSoFar l.initial.hasher l.hasher l.text l.rest

abbrev pub decreases-loop-rest : goal.decreases-loop-rest
decreases-loop-rest l = length l.rest
