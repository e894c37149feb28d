use Rattle.std.proofs.Common.{◌≡◌, ℕ, nat_cmp, ◌||◌}
use Rattle.std.specs.BTreeSet.{contains}
use Rattle.std.specs.List.{list_any}
use Rattle.mail_state.specs.reading.ThreadSteps.{has_lost}
use Rattle.mail_state.proofs.threads.note_losses.Given as goal

abbrev pub invariant-loop-number : goal.invariant-loop-number
invariant-loop-number l =
    (t : ℕ) → contains nat_cmp l.among t || list_any (has_lost l.gone t) l.number-iterator
    ≡ (contains nat_cmp l.initial.among t || list_any (has_lost l.gone t) l.threads.entries)
