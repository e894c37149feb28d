use Rattle.std.proofs.Common.{◌≡◌, ◌++◌, List, ℕ, Bor, map, drop}
use Rattle.query_core.specs.reading.Found.{keywords_of_all}
use Rattle.query_core.proofs.keyword_threads.put_keywords_of_all.Given as goal

-- those so far, and those of the rest
abbrev pub invariant-loop-condition : goal.invariant-loop-condition
invariant-loop-condition l =
    map (λ (k : Bor (List ℕ)). k.now) l.keywords.items ++ keywords_of_all (drop l.condition-index l.condition-items)
    ≡ map (λ (k : Bor (List ℕ)). k.now) l.fn.keywords.items ++ keywords_of_all l.condition-items
