use Rattle.std.proofs.Common.{◌≡◌, ◌++◌, length}
use Rattle.body_parts.specs.Texts.{with_lf}
use Rattle.body_parts.proofs.texts.with_lf.Given as goal

abbrev pub invariant-lines : goal.invariant-lines
invariant-lines l = l.kept.items ++ with_lf l.rest ≡ with_lf l.text

abbrev pub decreases-lines : goal.decreases-lines
decreases-lines l = length l.rest
