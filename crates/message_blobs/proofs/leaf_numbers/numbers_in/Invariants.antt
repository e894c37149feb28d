use Rattle.std.proofs.Common.{◌≤◌, length}
use Rattle.text_words.proofs.SequenceLemmas.{Behind}
use Rattle.message_blobs.specs.declared.leaf_numbers.TheConstants.{MAX_LEAVES}
use Rattle.message_blobs.specs.reading.NumberReading.{IsNumberBefore}
use Rattle.message_blobs.proofs.leaf_numbers.numbers_in.Given as goal

abbrev pub invariant-loop-rest : goal.invariant-loop-rest
invariant-loop-rest l = record { behind : Behind IsNumberBefore l.numbers.items l.rest l.text; few : length l.numbers.items ≤ MAX_LEAVES }

abbrev pub decreases-loop-rest : goal.decreases-loop-rest
decreases-loop-rest l = length l.rest
