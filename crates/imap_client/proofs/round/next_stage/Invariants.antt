use Rattle.std.proofs.Common.{◌≡◌, ◌-◌, drop, length}
use Rattle.imap_client.specs.Rounds as rounds
use Rattle.imap_client.proofs.round.next_stage.Given as goal

abbrev pub invariant-loop-at : goal.invariant-loop-at
invariant-loop-at l = rounds.selectable_from l.at (drop l.at l.folders) ≡ rounds.selectable_from l.from (drop l.from l.folders)

abbrev pub decreases-loop-at : goal.decreases-loop-at
decreases-loop-at l = length l.folders - l.at
