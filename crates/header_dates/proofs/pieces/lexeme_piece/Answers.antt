use Rattle.std.proofs.Common.{◌∙◌}
use Rattle.header_tokens.specs.TokenView.{token_view}
use Rattle.header_dates.proofs.PieceLemmas.{none_behind, lexeme_behind}
use Rattle.header_dates.proofs.pieces.lexeme_piece.Goals as goal

pub returns-in-None : goal.returns-in-None
returns-in-None c = none_behind c.args.text.now c.in-None.ensures

pub returns-in-Some : goal.returns-in-Some
returns-in-Some c = lexeme_behind (token_view c.in-Some.lexeme) c.in-Some.rest.now c.args.text.now c.in-Some.ensures.lexemes ∙ c.piece_of.ensures
