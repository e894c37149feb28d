-- The languages of a part (RFC 3282, RFC 8621 section 4.1.4).
use Rattle.std.specs.Prelude.{◌≡◌, ℕ, List, map, Option, Some, None}
use Rattle.std.specs.List.{filter}
use Rattle.serde_json.specs.Data.{Data, null}
use Rattle.header_tokens.specs.declared.token.Alphabet.TheVariants as alphabet
use Rattle.header_tokens.specs.Lexemes.{AreLeadingLexemes}
use Rattle.header_tokens.specs.Tokens.{Spelled}
use Rattle.mime_fields.specs.Parameters.{is_token}
use Rattle.json_texts.specs.Texts.{text_list}

-- the texts of the tokens among the lexemes
abbrev pub tags : List Spelled → List (List ℕ)
tags lexemes = map (λ (s : Spelled). s.text) (filter is_token lexemes)

-- the language tags in a Content-Language: its tokens outside comments and quoted texts, up to where none begins
abbrev pub IsLanguage : Option (List ℕ) → Data → Type 0
IsLanguage None d = d ≡ null
IsLanguage (Some text) d = (lexemes : List Spelled) × AreLeadingLexemes alphabet.Mime lexemes text × (d ≡ text_list (tags lexemes))
