use Rattle.std.proofs.Common.{length}
use Rattle.mail_header.proofs.BracketLemmas.{Gathered}
use Rattle.mail_header.proofs.bracketed.pieces.Given as goal

abbrev pub invariant-loop-rest : goal.invariant-loop-rest
invariant-loop-rest l = Gathered l.names l.rest l.text

abbrev pub decreases-loop-rest : goal.decreases-loop-rest
decreases-loop-rest l = length l.rest
