use Rattle.std.proofs.Common.{◌≡◌, true, false, sym, ◌∙◌}
use Rattle.text_words.specs.Octets.{is_same_text}
use Rattle.mime_fields.proofs.ParameterLemmas.{if_match, other_nameless, other_named, other_valueless, named_value}
use Rattle.mime_fields.proofs.parameters.parameter_in.Goals as goal

pub returns-in_default : goal.returns-in_default
returns-in_default c = other_nameless c.args.name.now c.args.piece.now c.in_default.ensures

pub returns-then-not-same_text : goal.returns-then-not-same_text
returns-then-not-same_text c =
    let e : is_same_text c.in-Some.found.name.now c.args.name.now ≡ false = sym c.same_text.ensures.test ∙ c.if-not-same_text.true in
    other_named c.args.name.now c.args.piece.now c.in-Some.found.name.now c.in-Some.found.raw.now c.in-Some.ensures e

pub returns : goal.returns
returns c =
    let e : is_same_text c.in-Some.found.name.now c.args.name.now ≡ true = sym c.same_text.ensures.test ∙ c.if-not-same_text.false in
    if_match c.value_in.result (other_valueless c.args.name.now c.args.piece.now c.in-Some.found.name.now c.in-Some.found.raw.now c.in-Some.ensures)
    (λ v i. named_value c.args.name.now c.args.piece.now c.in-Some.found.name.now c.in-Some.found.raw.now v c.in-Some.ensures e i) c.value_in.ensures
