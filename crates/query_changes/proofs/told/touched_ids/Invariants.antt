use Rattle.std.proofs.Common.{◌≡◌, ℕ, Bool, nat_cmp, drop, ◌||◌, ◌==◌}
use Rattle.std.specs.BTreeSet.{contains}
use Rattle.std.specs.List.{list_any}
use Rattle.query_changes.proofs.told.touched_ids.Given as goal

-- those so far, and those of the rest
abbrev pub invariant-loop-touch : goal.invariant-loop-touch
invariant-loop-touch l =
    (n : ℕ) → contains nat_cmp l.ids n || list_any (λ (t : ℕ × Bool). t.0 == n) (drop l.touch-index l.touched) ≡ list_any (λ (t : ℕ × Bool). t.0 == n) l.touched
