use Rattle.std.proofs.Common.{◌∙◌, ap, List}
use Rattle.serde_json.specs.Data.{Data, array}
use Rattle.serde_json.specs.View.{items_of}
use Rattle.serde_json.proofs.Views.{view-Array}
use Rattle.header_tokens.specs.declared.token.Alphabet.TheVariants as alphabet
use Rattle.header_tokens.specs.reading.LexemeReading.{lexemes_in}
use Rattle.header_tokens.proofs.LexemeLemmas.{lexemes_are}
use Rattle.body_parts.proofs.languages.tags_value.Goals as goal

pub returns : goal.returns
returns c =
    let text = c.args.text.now in
    (lexemes_in alphabet.Mime text, lexemes_are alphabet.Mime text, view-Array c.in_ok-tags.tags ∙ ap (λ (ds : List Data). array (items_of ds)) c.in_ok-tags.ensures)
