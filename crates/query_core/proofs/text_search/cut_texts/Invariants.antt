use Rattle.std.proofs.Common.{◌≡◌, ◌++◌, ℕ, List, Bor, drop, map}
use Rattle.query_core.specs.reading.Joined.{joined}
use Rattle.query_core.proofs.text_search.cut_texts.Given as goal

-- the texts so far, and those of the rest; the octets that are left are those of the rest
abbrev pub invariant-loop-text : goal.invariant-loop-text
invariant-loop-text l = record {
  texts : map (λ (t : Bor (List ℕ)). t.now) l.cut.items ++ map (λ (t : Bor (List ℕ)). t.now) (drop l.text-index l.texts) ≡ map (λ (t : Bor (List ℕ)). t.now) l.texts;
  octets : l.left ≡ joined (map (λ (t : Bor (List ℕ)). t.now) (drop l.text-index l.texts));
}
