use Rattle.std.proofs.Common.{◌≤◌, length}
use Rattle.thread_rule.specs.Subject.{IsLeader, IsTrailer}
use Rattle.thread_rule.specs.BaseSubject.{Drops, DropsEnd, Lacks, Reaches}
use Rattle.thread_rule.proofs.base.without_blobs.Given as goal

abbrev pub invariant-loop-more : goal.invariant-loop-more
invariant-loop-more l = record {
  reached : Reaches l.text l.rest;
  trailer : Lacks (DropsEnd IsTrailer) l.rest;
  leader : Lacks (Drops IsLeader) l.rest;
  shorter : length l.rest ≤ length l.text;
}

abbrev pub decreases-loop-more : goal.decreases-loop-more
decreases-loop-more l = length l.rest
