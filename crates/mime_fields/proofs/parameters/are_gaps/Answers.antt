use Rattle.header_tokens.specs.TokenView.{token_view}
use Rattle.mime_fields.proofs.ParameterLemmas.{some_lexeme, gaps_told}
use Rattle.mime_fields.proofs.parameters.are_gaps.Goals as goal

pub returns-in-Some : goal.returns-in-Some
returns-in-Some c = λ r. some_lexeme (token_view c.in-Some.field-0.0) c.in-Some.field-0.1.now c.args.text.now c.in-Some.ensures.first r

pub returns-in-None : goal.returns-in-None
returns-in-None c = gaps_told c.args.text.now c.is_row.result c.in-None.ensures.value c.is_row.ensures
