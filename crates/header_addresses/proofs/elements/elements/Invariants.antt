use Rattle.std.proofs.Common.{◌≤◌, ◌-◌, drop, length}
use Rattle.header_addresses.specs.reading.ElementView.{elements_view}
use Rattle.header_tokens.specs.TokenView.{tokens_view}
use Rattle.header_addresses.proofs.ElementLemmas.{FilledBehind}
use Rattle.header_addresses.proofs.elements.elements.Given as goal

abbrev pub invariant-loop-at : goal.invariant-loop-at
invariant-loop-at l = record {
  within : l.at ≤ length l.tokens;
  read : FilledBehind (elements_view l.found.items) (tokens_view (drop l.at l.tokens)) (tokens_view l.tokens);
}

abbrev pub decreases-loop-at : goal.decreases-loop-at
decreases-loop-at l = length l.tokens - l.at
