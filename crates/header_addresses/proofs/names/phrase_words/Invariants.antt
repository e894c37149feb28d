use Rattle.std.proofs.Common.{◌≡◌, ◌++◌, drop, false}
use Rattle.header_addresses.specs.Names.{phrase_from}
use Rattle.header_tokens.specs.TokenView.{tokens_view}
use Rattle.header_addresses.proofs.names.phrase_words.Given as goal

abbrev pub invariant-loop-word : goal.invariant-loop-word
invariant-loop-word l = l.text.items ++ phrase_from l.gap (tokens_view (drop l.word-index l.words)) ≡ phrase_from false (tokens_view l.words)
