use Rattle.std.proofs.Common.{◌≡◌, true, take}
use Rattle.header_words.specs.EncodedWords.{ends_at_edge, NoneBefore}
use Rattle.header_words.proofs.words.first_word.Given as goal

abbrev pub invariant-loop-at : goal.invariant-loop-at
invariant-loop-at l = record {
  edge_is : l.edge ≡ ends_at_edge l.edges true (take l.at l.value);
  none : NoneBefore l.edges l.at l.value;
}
