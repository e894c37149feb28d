use Rattle.std.proofs.Common.{◌∙◌, ◌++◌, List, ap, map, sym, append-nil}
use Rattle.serde_json.specs.View.{view}
use Rattle.header_tokens.specs.declared.token.Alphabet.TheVariants as alphabet
use Rattle.header_tokens.specs.TokenView.{token_view}
use Rattle.header_tokens.specs.Tokens.{Spelled}
use Rattle.header_tokens.specs.reading.LexemeReading.{lexemes_in}
use Rattle.header_tokens.proofs.LexemeLemmas.{next_in, none_in}
use Rattle.body_parts.specs.Languages.{tags}
use Rattle.json_texts.specs.Texts.{text_data}
use Rattle.body_parts.proofs.TagLemmas.{tag_more}
use Rattle.body_parts.proofs.languages.tag_values.Goals as goal

pub tags-preserved : goal.tags-preserved
tags-preserved c =
    tag_more (map view c.tags.values.items) (map view c.push_tag.new.values.items) (token_view c.in-Some.lexeme) (lexemes_in alphabet.Mime c.tags.rest.now)
    (lexemes_in alphabet.Mime c.in-Some.more.now)
    (map text_data (tags (lexemes_in alphabet.Mime c.args.text.now)))
    (next_in alphabet.Mime (token_view c.in-Some.lexeme) c.in-Some.more.now c.tags.rest.now c.in-Some.ensures.value) c.in_ok-push_tag.ensures c.tags.invariant

pub returns : goal.returns
returns c =
    let done = map view c.tags.values.items in
    sym (append-nil done) ∙ ap (λ (ls : List Spelled). done ++ map text_data (tags ls)) (sym (none_in alphabet.Mime c.tags.rest.now c.in_default.ensures.value)) ∙ c.tags.invariant
