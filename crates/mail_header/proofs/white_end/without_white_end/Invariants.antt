use Rattle.std.proofs.Common.{◌≡◌, length}
use Rattle.mail_header.specs.WhiteEnd.{without_white_end}
use Rattle.mail_header.proofs.white_end.without_white_end.Given as goal

abbrev pub invariant-loop-rest : goal.invariant-loop-rest
invariant-loop-rest l = without_white_end l.rest ≡ without_white_end l.text

abbrev pub decreases-loop-rest : goal.decreases-loop-rest
decreases-loop-rest l = length l.rest
