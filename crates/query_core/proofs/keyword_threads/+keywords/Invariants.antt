use Rattle.std.proofs.Common.{◌≡◌, ◌++◌, List, ℕ, Bor, map, drop}
use Rattle.query_arguments.specs.FilterTrees.{filter_tree, trees_of}
use Rattle.query_core.specs.reading.Found.{keywords_of_each}
use Rattle.query_core.proofs.keyword_threads.+keywords.Given as goal

-- those so far, and those of the rest
abbrev pub invariant-put_keywords_of_each-loop-filter : goal.invariant-put_keywords_of_each-loop-filter
invariant-put_keywords_of_each-loop-filter l =
    map (λ (k : Bor (List ℕ)). k.now) l.keywords.items ++ keywords_of_each (trees_of (map filter_tree (drop l.filter-index l.filter-items)))
    ≡ map (λ (k : Bor (List ℕ)). k.now) l.fn.keywords.items ++ keywords_of_each (trees_of (map filter_tree l.filter-items))
