use Rattle.std.proofs.Common.{◌≡◌, ◌≤◌, length, take}
use Rattle.told_folder.specs.Tell.{whole_lines}
use Rattle.told_changes.proofs.headers.whole_lines_len.Given as goal

abbrev pub invariant-loop-end : goal.invariant-loop-end
invariant-loop-end l = record { within : l.end ≤ length l.octets; lines : whole_lines (take l.end l.octets) ≡ whole_lines l.octets }

abbrev pub decreases-loop-end : goal.decreases-loop-end
decreases-loop-end l = l.end
