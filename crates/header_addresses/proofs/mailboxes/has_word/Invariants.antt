use Rattle.std.proofs.Common.{◌≡◌, drop}
use Rattle.std.specs.List.{list_any}
use Rattle.header_tokens.specs.Kinds.{is_word}
use Rattle.header_tokens.specs.TokenView.{tokens_view}
use Rattle.header_addresses.proofs.mailboxes.has_word.Given as goal

abbrev pub invariant-loop-token : goal.invariant-loop-token
invariant-loop-token l = list_any is_word (tokens_view (drop l.token-index l.tokens)) ≡ list_any is_word (tokens_view l.tokens)
