use Rattle.std.proofs.Common.{length}
use Rattle.imap_values.proofs.front_octets.+is_folded.Given as goal

abbrev pub decreases-is_folded : goal.decreases-is_folded
decreases-is_folded l = length l.word.now
