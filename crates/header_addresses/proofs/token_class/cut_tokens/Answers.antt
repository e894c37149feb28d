use Rattle.std.proofs.Common.{ap, ◌∙◌}
use Rattle.header_tokens.specs.TokenView.{token_view, tokens_view}
use Rattle.header_addresses.proofs.ClassLemmas.{map_front, map_back}
use Rattle.header_addresses.proofs.token_class.cut_tokens.Goals as goal

pub returns-clause-front : goal.returns-clause-front
returns-clause-front g c = ap tokens_view c.cut.ensures.front ∙ map_front token_view g.C.TokenClass.test c.args.tokens.now

pub returns-clause-back : goal.returns-clause-back
returns-clause-back g c = ap tokens_view c.cut.ensures.back ∙ map_back token_view g.C.TokenClass.test c.args.tokens.now
