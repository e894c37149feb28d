use Rattle.std.proofs.Common.{◌≡◌, ℕ, nat_cmp, drop, ◌||◌}
use Rattle.std.specs.BTreeSet.{contains}
use Rattle.std.specs.List.{list_any}
use Rattle.mail_state.specs.reading.ThreadSteps.{removes}
use Rattle.mail_state.proofs.threads.removals.Given as goal

abbrev pub invariant-loop-touch : goal.invariant-loop-touch
invariant-loop-touch l =
    (n : ℕ) → contains nat_cmp l.gone n || list_any (removes n) (drop l.touch-index l.touches) ≡ list_any (removes n) l.touches
