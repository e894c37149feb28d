use Rattle.std.proofs.Common.{◌≡◌, ◌++◌, length}
use Rattle.body_parts.specs.declared.previews.TheConstants.{MAX_PREVIEW_CHARACTERS}
use Rattle.body_parts.specs.Previews.{single_spaced, first_characters}
use Rattle.body_parts.proofs.previews.preview_of.Given as goal

abbrev pub invariant-loop-rest : goal.invariant-loop-rest
invariant-loop-rest l = l.preview.items ++ first_characters l.left (single_spaced l.rest) ≡ first_characters MAX_PREVIEW_CHARACTERS (single_spaced l.initial.rest)

abbrev pub decreases-loop-rest : goal.decreases-loop-rest
decreases-loop-rest l = length l.rest
