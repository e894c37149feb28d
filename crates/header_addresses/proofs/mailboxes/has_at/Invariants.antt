use Rattle.std.proofs.Common.{◌≡◌, drop}
use Rattle.std.specs.List.{list_any}
use Rattle.header_tokens.specs.Kinds.{has_mark}
use Rattle.header_tokens.specs.TokenView.{tokens_view}
use Rattle.header_addresses.proofs.mailboxes.has_at.Given as goal

abbrev pub invariant-loop-token : goal.invariant-loop-token
invariant-loop-token l = list_any (has_mark 64) (tokens_view (drop l.token-index l.tokens)) ≡ list_any (has_mark 64) (tokens_view l.tokens)
