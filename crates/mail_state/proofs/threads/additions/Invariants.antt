use Rattle.std.proofs.Common.{◌≡◌, ℕ, nat_cmp, drop, ◌||◌}
use Rattle.std.specs.BTreeSet.{contains}
use Rattle.std.specs.List.{list_any}
use Rattle.mail_state.specs.reading.ThreadSteps.{adds_to}
use Rattle.mail_state.proofs.threads.additions.Given as goal

abbrev pub invariant-loop-touch : goal.invariant-loop-touch
invariant-loop-touch l =
    (t : ℕ) → contains nat_cmp l.among t || list_any (adds_to l.emails.entries t) (drop l.touch-index l.touches) ≡ list_any (adds_to l.emails.entries t) l.touches
