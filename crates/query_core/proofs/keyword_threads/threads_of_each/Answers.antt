use Rattle.std.proofs.Common.{List, ℕ, Bor, map, take_all, subst}
use Rattle.std.specs.List.{AllByRecursion}
use Rattle.query_conditions.specs.Entries.{emails_at}
use Rattle.query_core.specs.reading.Found.{HasThreads}
use Rattle.query_core.proofs.FoundLemmas.{have_more}
use Rattle.query_core.proofs.keyword_threads.threads_of_each.Goals as goal

pub loop-keyword-preserved : goal.loop-keyword-preserved
loop-keyword-preserved c = record {
  sound = c.in_ok-find.ensures.sound;
  found =
      have_more (emails_at c.args.emails.now) c.loop-keyword.found c.find.new.found c.args.keywords.now c.loop-keyword.keyword-index _
      c.loop-keyword-test.true c.in_ok-find.ensures.found c.in_ok-find.ensures.others c.loop-keyword.invariant.found;
}

pub returns : goal.returns
returns c =
    subst (λ (ks : List (Bor (List ℕ))). AllByRecursion (HasThreads (emails_at c.args.emails.now) c.loop-keyword.found) (map (λ (k : Bor (List ℕ)). k.now) ks))
    (take_all c.loop-keyword.keyword-index c.args.keywords.now c.loop-keyword-test.false) c.loop-keyword.invariant.found
