use Rattle.std.proofs.Common.{◌≡◌, ℕ, ◌+◌, ◌-◌, map, length}
use Rattle.thread_rule.specs.reading.Index.{list_at}
use Rattle.thread_rule.proofs.index.KeyIndex.make_room.Given as goal

abbrev pub invariant-loop-self : goal.invariant-loop-self
invariant-loop-self l = (n : ℕ) → list_at (map (λ tree. tree.keys) l.self-inside.trees.items) n ≡ list_at (map (λ tree. tree.keys) l.initial.self-inside.trees.items) n

abbrev pub decreases-loop-self : goal.decreases-loop-self
decreases-loop-self l = l.front + 1 - length l.self-inside.trees.items
