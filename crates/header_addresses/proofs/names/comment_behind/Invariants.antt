use Rattle.std.proofs.Common.{◌≡◌, drop, None}
use Rattle.std.specs.Option.{option_map}
use Rattle.header_addresses.specs.Names.{comment_behind}
use Rattle.header_tokens.specs.TokenView.{tokens_view}
use Rattle.header_addresses.proofs.names.comment_behind.Given as goal

abbrev pub invariant-loop-token : goal.invariant-loop-token
invariant-loop-token l = comment_behind (option_map (λ t. t.now) l.found) (tokens_view (drop l.token-index l.tokens)) ≡ comment_behind None (tokens_view l.tokens)
