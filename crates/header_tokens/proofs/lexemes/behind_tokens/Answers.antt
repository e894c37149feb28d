use Rattle.std.proofs.Common.{sym, ap, ◌∙◌}
use Rattle.header_tokens.specs.TokenView.{token_view}
use Rattle.header_tokens.specs.reading.LexemeReading.{rest_in}
use Rattle.header_tokens.proofs.LexemeLemmas.{rest_step, rest_none}
use Rattle.header_tokens.proofs.lexemes.behind_tokens.Goals as goal

pub loop-behind-preserved : goal.loop-behind-preserved
loop-behind-preserved c =
    let a = c.args.alphabet in
    let f = c.in-Some.ensures.value in
    ap (rest_in a) f.rest_is ∙ sym (rest_step a (token_view c.in-Some.field-0-0) f.len c.loop-behind.rest.now f.read) ∙ c.loop-behind.invariant

pub returns : goal.returns
returns c = sym (rest_none c.args.alphabet c.loop-behind.rest.now c.in_default.ensures.value) ∙ c.loop-behind.invariant
