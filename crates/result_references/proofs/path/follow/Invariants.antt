use Rattle.std.proofs.Common.{◌≡◌, ◌≤◌, length, IsUtf8}
use Rattle.serde_json.specs.View.{view}
use Rattle.result_references.specs.reading.Reaching.{IsPointer, reached, segments_in}
use Rattle.result_references.proofs.path.follow.Given as goal

-- where the whole path leads from the value, the rest leads from here
abbrev pub invariant-steps : goal.invariant-steps
invariant-steps l = (reached (segments_in l.path) (view l.value) ≡ reached (segments_in l.rest) (view l.here)) × IsPointer l.rest × (length l.rest ≤ length l.path) × IsUtf8 l.rest

abbrev pub decreases-steps : goal.decreases-steps
decreases-steps l = length l.rest
