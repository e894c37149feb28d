use Rattle.std.proofs.Common.{◌≡◌, ℕ, List, ◌++◌, drop}
use Rattle.header_tokens.specs.TokenView.{tokens_view}
use Rattle.header_addresses.specs.Parts.{spelled_by}
use Rattle.header_addresses.proofs.parts.behind_tokens.Given as goal

abbrev pub invariant-loop-token : goal.invariant-loop-token
invariant-loop-token l =
    (more : List ℕ) × (l.rest ≡ spelled_by (tokens_view (drop l.token-index l.tokens)) ++ more) × (l.text ≡ spelled_by (tokens_view l.tokens) ++ more)
