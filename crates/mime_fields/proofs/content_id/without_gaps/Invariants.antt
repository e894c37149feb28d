use Rattle.std.proofs.Common.{length}
use Rattle.mime_fields.proofs.IdLemmas.{Gathered}
use Rattle.mime_fields.proofs.content_id.without_gaps.Given as goal

abbrev pub invariant-loop-rest : goal.invariant-loop-rest
invariant-loop-rest l = Gathered l.comments l.kept.items l.rest l.text

abbrev pub decreases-loop-rest : goal.decreases-loop-rest
decreases-loop-rest l = length l.rest
