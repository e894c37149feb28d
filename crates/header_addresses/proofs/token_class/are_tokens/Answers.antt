use Rattle.std.proofs.Common.{◌∙◌}
use Rattle.header_tokens.specs.TokenView.{token_view}
use Rattle.header_addresses.proofs.ClassLemmas.{map_all}
use Rattle.header_addresses.proofs.token_class.are_tokens.Goals as goal

pub returns : goal.returns
returns g c = c.are_all.ensures.test ∙ map_all token_view g.C.TokenClass.test c.args.tokens.now
