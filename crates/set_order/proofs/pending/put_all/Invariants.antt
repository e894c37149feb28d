use Rattle.std.proofs.Common.{◌≡◌, ◌||◌, ℕ, List, map, take}
use Rattle.jmap_arguments.specs.Arguments.{is_among}
use Rattle.set_order.proofs.pending.put_all.Given as goal

-- those so far, and those before
abbrev pub invariant-loop-text : goal.invariant-loop-text
invariant-loop-text l = (other : List ℕ) → is_among other (map (λ k. k.now) l.set.keys)
    ≡ (is_among other (map (λ t. t.now) (take l.text-index l.text-items)) || is_among other (map (λ k. k.now) l.fn.set.keys))
