use Rattle.std.proofs.Common.{◌≡◌, drop, false}
use Rattle.header_addresses.specs.Mailboxes.{are_apart}
use Rattle.header_tokens.specs.TokenView.{tokens_view}
use Rattle.header_addresses.proofs.mailboxes.are_apart.Given as goal

abbrev pub invariant-loop-token : goal.invariant-loop-token
invariant-loop-token l = are_apart l.behind_word (tokens_view (drop l.token-index l.tokens)) ≡ are_apart false (tokens_view l.tokens)
