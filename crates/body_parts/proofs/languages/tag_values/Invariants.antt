use Rattle.std.proofs.Common.{◌≡◌, ◌++◌, length, map}
use Rattle.serde_json.specs.View.{view}
use Rattle.header_tokens.specs.declared.token.Alphabet.TheVariants as alphabet
use Rattle.header_tokens.specs.reading.LexemeReading.{lexemes_in}
use Rattle.body_parts.specs.Languages.{tags}
use Rattle.json_texts.specs.Texts.{text_data}
use Rattle.body_parts.proofs.languages.tag_values.Given as goal

abbrev pub invariant-tags : goal.invariant-tags
invariant-tags l = map view l.values.items ++ map text_data (tags (lexemes_in alphabet.Mime l.rest)) ≡ map text_data (tags (lexemes_in alphabet.Mime l.text))

abbrev pub decreases-tags : goal.decreases-tags
decreases-tags l = length l.rest
