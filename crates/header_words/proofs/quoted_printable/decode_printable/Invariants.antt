use Rattle.std.proofs.Common.{length}
use Rattle.header_words.proofs.PrintableLemmas.{Written}
use Rattle.header_words.proofs.quoted_printable.decode_printable.Given as goal

abbrev pub invariant-loop-rest : goal.invariant-loop-rest
invariant-loop-rest l = Written l.octets.items l.problem l.rest l.text

abbrev pub decreases-loop-rest : goal.decreases-loop-rest
decreases-loop-rest l = length l.rest
