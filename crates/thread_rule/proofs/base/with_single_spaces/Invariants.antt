use Rattle.std.proofs.Common.{◌≡◌, ◌++◌, length}
use Rattle.thread_rule.specs.BaseSubject.{spaced}
use Rattle.thread_rule.proofs.base.with_single_spaces.Given as goal

abbrev pub invariant-loop-rest : goal.invariant-loop-rest
invariant-loop-rest l = l.spaced.items ++ spaced l.rest ≡ spaced l.text

abbrev pub decreases-loop-rest : goal.decreases-loop-rest
decreases-loop-rest l = length l.rest
