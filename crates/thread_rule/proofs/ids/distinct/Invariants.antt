use Rattle.std.proofs.Common.{◌≡◌, ℕ, List, ◌++◌, map, length}
use Rattle.thread_rule.specs.Ids.{ids_in, each_once}
use Rattle.thread_rule.specs.reading.Once.{has_text, left_of, EndsWhole}
use Rattle.thread_rule.proofs.ids.distinct.Given as goal

-- the set has those so far; all once are those, and then those of the rest that aren't among them
abbrev pub invariant-loop-id : goal.invariant-loop-id
invariant-loop-id l = record {
  whole : EndsWhole l.once.items;
  seen : (text : List ℕ) → has_text text (map (λ t. t.now) l.seen.keys) ≡ has_text text (ids_in l.once.items);
  once : each_once (ids_in l.text) ≡ ids_in l.once.items ++ left_of (ids_in l.once.items) (each_once (ids_in l.rest));
}

abbrev pub decreases-loop-id : goal.decreases-loop-id
decreases-loop-id l = length l.rest
