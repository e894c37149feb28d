use Rattle.std.proofs.Common.{List, ℕ, Bor, map, take}
use Rattle.std.specs.List.{AllByRecursion}
use Rattle.query_conditions.specs.Entries.{emails_at}
use Rattle.query_core.specs.reading.Found.{AreSound, HasThreads}
use Rattle.query_core.proofs.keyword_threads.threads_of_each.Given as goal

-- those of the keywords so far are found
abbrev pub invariant-loop-keyword : goal.invariant-loop-keyword
invariant-loop-keyword l = record {
  sound : AreSound (emails_at l.emails) l.found;
  found : AllByRecursion (HasThreads (emails_at l.emails) l.found) (map (λ (k : Bor (List ℕ)). k.now) (take l.keyword-index l.keywords));
}
