use Rattle.std.proofs.Common.{length}
use Rattle.header_tokens.specs.TokenView.{tokens_view}
use Rattle.header_tokens.proofs.LeadingLemmas.{Leads}
use Rattle.header_tokens.proofs.tokens.leading_tokens.Given as goal

abbrev pub invariant-loop-token : goal.invariant-loop-token
invariant-loop-token l = Leads l.fn.alphabet (tokens_view l.found.items) l.rest l.text

abbrev pub decreases-loop-token : goal.decreases-loop-token
decreases-loop-token l = length l.rest
