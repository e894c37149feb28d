use Rattle.std.proofs.Common.{◌++◌, List, ℕ, Bor, map, ap, subst, ◌∙◌}
use Rattle.std.specs.List.{AllByRecursion}
use Rattle.std.proofs.lemmas.Result.{IfOk-weaker}
use Rattle.query_conditions.specs.Entries.{emails_at}
use Rattle.query_arguments.specs.FilterTrees.{filter_tree}
use Rattle.query_core.specs.reading.Found.{HasThreads, keywords_asked}
use Rattle.query_core.proofs.FoundLemmas.{knows_filter}
use Rattle.query_core.proofs.keyword_threads.threads_for.Goals as goal

pub returns : goal.returns
returns c =
    let all = emails_at c.args.emails.now in
    let tree = filter_tree c.args.filter.now in
    let shown : List (Bor (List ℕ)) → List (List ℕ) = λ ks. map (λ (k : Bor (List ℕ)). k.now) ks in
    IfOk-weaker c.threads_of_each.result _ _ (λ found have.
    knows_filter all found tree
    (subst (AllByRecursion (HasThreads all found))
    (ap shown c.as_slice.ensures.value ∙ c.in_ok-put_keywords.ensures ∙ ap (λ (ks : List (Bor
    (List ℕ))). shown ks ++ keywords_asked tree) c.new-keywords.ensures.items) have)) c.threads_of_each.ensures
