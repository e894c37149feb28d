use Rattle.std.proofs.Common.{◌∙◌}
use Rattle.header_tokens.proofs.ClosingLemmas.{tell_all}
use Rattle.loose_addresses.proofs.torn.is_torn.Goals as goal

pub has_torn-requires : goal.has_torn-requires
has_torn-requires c = tell_all c.as_slice.result.now c.args.text.now (c.as_slice.ensures.value ∙ c.in_ok-closed.ensures)
