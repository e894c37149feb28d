use Rattle.std.proofs.Common.{◌≡◌, false, length}
use Rattle.search_words.specs.reading.Parts.{phrase_from}
use Rattle.search_words.proofs.PhraseLemmas.{behind_octets}
use Rattle.search_words.proofs.phrases.phrase_at.Given as goal

-- the octets so far, and the phrase that goes on in what is left
abbrev pub invariant-loop-octet : goal.invariant-loop-octet
invariant-loop-octet l = behind_octets l.octets.items (phrase_from l.mark l.quoting l.left) ≡ phrase_from l.mark false l.fn.text

abbrev pub decreases-loop-octet : goal.decreases-loop-octet
decreases-loop-octet l = length l.left
