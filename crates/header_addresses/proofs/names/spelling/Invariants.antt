use Rattle.std.proofs.Common.{◌≡◌, ◌++◌, drop}
use Rattle.header_addresses.specs.Names.{spelling}
use Rattle.header_tokens.specs.TokenView.{tokens_view}
use Rattle.header_addresses.proofs.names.spelling.Given as goal

abbrev pub invariant-loop-token : goal.invariant-loop-token
invariant-loop-token l = l.text.items ++ spelling (tokens_view (drop l.token-index l.spec)) ≡ spelling (tokens_view l.spec)
