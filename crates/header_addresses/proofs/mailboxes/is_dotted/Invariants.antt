use Rattle.std.proofs.Common.{◌≡◌, drop, true}
use Rattle.header_addresses.specs.Mailboxes.{is_dotted}
use Rattle.header_tokens.specs.TokenView.{tokens_view}
use Rattle.header_addresses.proofs.mailboxes.is_dotted.Given as goal

abbrev pub invariant-loop-token : goal.invariant-loop-token
invariant-loop-token g l = is_dotted g.C.TokenClass.test l.due (tokens_view (drop l.token-index l.tokens)) ≡ is_dotted g.C.TokenClass.test true (tokens_view l.tokens)
