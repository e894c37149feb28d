use Rattle.std.proofs.Common.{◌≡◌, ◌++◌, ℕ, List, Bor, drop, map}
use Rattle.query_core.specs.reading.Joined.{joined}
use Rattle.query_core.proofs.text_search.joined_texts.Given as goal

-- those so far, and those of the rest
abbrev pub invariant-loop-text : goal.invariant-loop-text
invariant-loop-text l =
    l.octets.items ++ joined (map (λ (t : Bor (List ℕ)). t.now) (drop l.text-index l.texts)) ≡ joined (map (λ (t : Bor (List ℕ)). t.now) l.texts)
