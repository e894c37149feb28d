use Rattle.std.proofs.Common.{length}
use Rattle.text_words.proofs.SequenceLemmas.{Behind}
use Rattle.header_words.specs.QuotedText.{IsQUnit}
use Rattle.header_words.proofs.quoted_text.decode_quoted.Given as goal

abbrev pub invariant-loop-rest : goal.invariant-loop-rest
invariant-loop-rest l = Behind IsQUnit l.octets.items l.rest l.text

abbrev pub decreases-loop-rest : goal.decreases-loop-rest
decreases-loop-rest l = length l.rest
