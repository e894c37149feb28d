use Rattle.std.proofs.Common.{◌≡◌, ℕ, List, ◌++◌, drop, map}
use Rattle.jmap_arguments.specs.Arguments.{is_among}
use Rattle.jmap_arguments.specs.Gets.{distinct_ids}
use Rattle.jmap_arguments.proofs.OnceLemmas.{left_of}
use Rattle.jmap_arguments.proofs.gets.distinct.Given as goal

-- the set has those so far; all once are those, and then those of the rest that aren't among them
abbrev pub invariant-loop-id : goal.invariant-loop-id
invariant-loop-id l = record {
  seen : (text : List ℕ) → is_among text (map (λ t. t.now) l.seen.keys) ≡ is_among text (map (λ t. t.now) l.once.items);
  once : distinct_ids (map (λ t. t.now) l.id-items)
      ≡ map (λ t. t.now) l.once.items ++ left_of (map (λ t. t.now) l.once.items) (distinct_ids (map (λ t. t.now) (drop l.id-index l.id-items)));
}
