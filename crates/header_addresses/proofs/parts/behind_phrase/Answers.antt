use Rattle.std.proofs.Common.{ap, sym, ◌∙◌}
use Rattle.header_addresses.specs.Mailboxes.{is_phrase}
use Rattle.header_tokens.specs.TokenView.{tokens_view}
use Rattle.header_addresses.proofs.PartLemmas.{no_colon, no_phrase, empty_is, some_is, head_fits, begins_code, head_code}
use Rattle.header_addresses.proofs.parts.behind_phrase.Goals as goal

pub returns-then-is_empty : goal.returns-then-is_empty
returns-then-is_empty c =
    no_colon (tokens_view c.args.tokens.now) c.requires.0 c.args.text.now c.requires.1
    (sym c.cut_tokens.ensures.back ∙ ap tokens_view (empty_is c.cut_tokens.result.1.now c.is_empty.result c.is_empty.ensures c.if-is_empty.true))

pub returns-then-not-is_phrase : goal.returns-then-not-is_phrase
returns-then-not-is_phrase c =
    no_phrase (tokens_view c.args.tokens.now) c.requires.0 c.args.text.now c.requires.1
    (ap is_phrase (sym c.cut_tokens.ensures.front) ∙ sym c.is_phrase.ensures ∙ c.if-not-is_phrase.true)

pub split_at-requires : goal.split_at-requires
split_at-requires c =
    head_fits c.args.tokens.now c.cut_tokens.result.0.now c.cut_tokens.result.1.now c.cut_tokens.ensures.front c.cut_tokens.ensures.back
    (some_is c.cut_tokens.result.1.now c.is_empty.result c.is_empty.ensures c.if-is_empty.false)

pub behind_tokens-requires : goal.behind_tokens-requires
behind_tokens-requires c = begins_code _ c.args.tokens.now c.split_at.result.0.now c.requires.0 c.args.text.now c.split_at.ensures.front c.requires.1

pub returns : goal.returns
returns c =
    head_code c.args.tokens.now c.cut_tokens.result.0.now c.cut_tokens.result.1.now c.split_at.result.0.now c.requires.0 c.behind_tokens.result.now c.args.text.now c.requires.1
    c.cut_tokens.ensures.front c.cut_tokens.ensures.back (some_is c.cut_tokens.result.1.now c.is_empty.result c.is_empty.ensures c.if-is_empty.false)
    (sym c.is_phrase.ensures ∙ c.if-not-is_phrase.false) c.split_at.ensures.front c.behind_tokens.ensures
