use Rattle.std.proofs.Common.{◌≤◌, length}
use Rattle.thread_rule.specs.BaseSubject.{Reaches}
use Rattle.thread_rule.proofs.base.without_trailers.Given as goal

abbrev pub invariant-loop-more : goal.invariant-loop-more
invariant-loop-more l = record {
  reached : Reaches l.text l.rest;
  shorter : length l.rest ≤ length l.text;
}

abbrev pub decreases-loop-more : goal.decreases-loop-more
decreases-loop-more l = length l.rest
