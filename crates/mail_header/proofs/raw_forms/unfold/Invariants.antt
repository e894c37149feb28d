use Rattle.std.proofs.Common.{◌≡◌, ◌++◌, length}
use Rattle.mail_header.specs.Lines.{unfolded}
use Rattle.mail_header.proofs.raw_forms.unfold.Given as goal

abbrev pub invariant-loop-rest : goal.invariant-loop-rest
invariant-loop-rest l = l.kept.items ++ unfolded l.rest ≡ unfolded l.text

abbrev pub decreases-loop-rest : goal.decreases-loop-rest
decreases-loop-rest l = length l.rest
