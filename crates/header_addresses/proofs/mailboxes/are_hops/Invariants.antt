use Rattle.std.proofs.Common.{◌≡◌, [], length}
use Rattle.header_addresses.specs.Mailboxes.{are_hops}
use Rattle.header_addresses.specs.reading.ElementReading.{are_hops_behind}
use Rattle.header_tokens.specs.TokenView.{tokens_view}
use Rattle.header_addresses.proofs.mailboxes.are_hops.Given as goal

abbrev pub invariant-loop-rest : goal.invariant-loop-rest
invariant-loop-rest l = are_hops_behind (tokens_view l.rest) ≡ are_hops [] (tokens_view l.tokens)

abbrev pub decreases-loop-rest : goal.decreases-loop-rest
decreases-loop-rest l = length l.rest
