use Rattle.std.proofs.Common.{◌≡◌, false, sym, ◌∙◌}
use Rattle.header_tokens.specs.TokenView.{token_view}
use Rattle.header_tokens.specs.Kinds.{is_atom, has_mark}
use Rattle.mime_fields.specs.Parameters.{atom}
use Rattle.mime_fields.proofs.ParameterLemmas.{no_atom, no_second, no_mark}
use Rattle.mime_fields.proofs.parameters.name_at.Goals as goal

pub returns-in_default : goal.returns-in_default
returns-in_default c = λ n raw h. c.in_default.ensures.first (atom n) h.behind_name h.name_is

pub returns-in_default-mime_lexeme : goal.returns-in_default-mime_lexeme
returns-in_default-mime_lexeme c =
    no_second (token_view c.in-Some.name) c.in-Some.rest.now c.args.piece.now c.in-Some.ensures.first c.in_default-mime_lexeme.ensures.first

pub returns-then-not-is_atom : goal.returns-then-not-is_atom
returns-then-not-is_atom c =
    let e : is_atom (token_view c.in-Some.name) ≡ false = sym c.is_atom.ensures ∙ c.if-not-is_atom.true in
    no_atom (token_view c.in-Some.name) c.in-Some.rest.now c.args.piece.now c.in-Some.ensures.first e

pub returns-then-not-has_mark : goal.returns-then-not-has_mark
returns-then-not-has_mark c =
    let e : has_mark 61 (token_view c.in-Some-mime_lexeme.equals) ≡ false = sym c.has_mark.ensures ∙ c.if-not-has_mark.true in
    no_mark (token_view c.in-Some.name) (token_view c.in-Some-mime_lexeme.equals) c.in-Some.rest.now c.in-Some-mime_lexeme.raw.now c.args.piece.now
    c.in-Some.ensures.first c.in-Some-mime_lexeme.ensures.first e
