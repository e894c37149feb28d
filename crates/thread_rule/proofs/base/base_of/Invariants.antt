use Rattle.std.proofs.Common.{length}
use Rattle.thread_rule.specs.Subject.{IsLeader, IsTrailer}
use Rattle.thread_rule.specs.BaseSubject.{Drops, DropsEnd, DropsBlobBeforeText, Lacks, Reaches}
use Rattle.thread_rule.proofs.base.base_of.Given as goal

abbrev pub invariant-loop-inner : goal.invariant-loop-inner
invariant-loop-inner l = record {
  reached : Reaches l.text l.rest;
  trailer : Lacks (DropsEnd IsTrailer) l.rest;
  leader : Lacks (Drops IsLeader) l.rest;
  blob : Lacks DropsBlobBeforeText l.rest;
}

abbrev pub decreases-loop-inner : goal.decreases-loop-inner
decreases-loop-inner l = length l.rest
