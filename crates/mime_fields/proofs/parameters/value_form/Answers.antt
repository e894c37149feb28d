use Rattle.std.proofs.Common.{◌≡◌, true, false, sym, ◌∙◌}
use Rattle.header_tokens.specs.TokenView.{token_view}
use Rattle.header_tokens.specs.Kinds.{is_atom}
use Rattle.mime_fields.specs.Parameters.{is_quoted}
use Rattle.mime_fields.proofs.ParameterLemmas.{form_token, neither_none, neither_kind, neither_alone}
use Rattle.mime_fields.proofs.parameters.value_form.Goals as goal

pub returns-in_default : goal.returns-in_default
returns-in_default c = neither_none c.args.raw.now c.in_default.ensures.first c.in_default.ensures.value

pub returns-then-not-is_atom : goal.returns-then-not-is_atom
returns-then-not-is_atom c =
    let v = token_view c.in-Some.lexeme in
    let e : is_quoted v ≡ false = sym c.is_quoted.ensures ∙ c.if-is_quoted.false in
    let f : is_atom v ≡ false = sym c.is_atom.ensures ∙ c.if-not-is_atom.true in
    neither_kind v c.in-Some.rest.now c.args.raw.now c.in-Some.ensures.first e f

pub returns-then-are_gaps : goal.returns-then-are_gaps
returns-then-are_gaps c =
    let v = token_view c.in-Some.lexeme in
    let f : is_atom v ≡ true = sym c.is_atom.ensures ∙ c.if-not-is_atom.false in
    form_token v c.in-Some.rest.now c.args.raw.now c.in-Some.ensures.first f c.if-are_gaps.ensures

pub returns : goal.returns
returns c =
    let v = token_view c.in-Some.lexeme in
    let e : is_quoted v ≡ false = sym c.is_quoted.ensures ∙ c.if-is_quoted.false in
    neither_alone v c.in-Some.rest.now c.args.raw.now c.in-Some.ensures.first e c.if-are_gaps.ensures
