use Rattle.std.proofs.Common.{◌≡◌, ◌<◌, ◌≤◌, ℕ, true, get_or}
use Rattle.body_parts.specs.Cuts.{is_continuation}
use Rattle.body_parts.proofs.cuts.whole_characters.Given as goal

abbrev pub invariant-loop-at : goal.invariant-loop-at
invariant-loop-at l = record {
  up_to : l.at ≤ l.most;
  goes_on : (k : ℕ) → l.at < k → k ≤ l.most → is_continuation (get_or l.text k 0) ≡ true;
}

abbrev pub decreases-loop-at : goal.decreases-loop-at
decreases-loop-at l = l.at
