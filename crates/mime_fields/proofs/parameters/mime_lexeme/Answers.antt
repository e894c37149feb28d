use Rattle.std.proofs.Common.{◌≡◌, ℕ, List, ◌∷◌, Bor}
use Rattle.header_tokens.specs.declared.token.Alphabet.TheVariants as alphabet
use Rattle.header_tokens.specs.declared.token.Token.{Token}
use Rattle.header_tokens.specs.Lexemes.{IsNextLexeme}
use Rattle.header_tokens.specs.TokenView.{token_view}
use Rattle.header_tokens.proofs.LexemeLemmas.{next_in, none_in, match_map}
use Rattle.mime_fields.specs.reading.MimeLexemes.{mime_lexemes}
use Rattle.mime_fields.proofs.parameters.mime_lexeme.Goals as goal

pub returns-clause-value : goal.returns-clause-value
returns-clause-value c =
    let t = c.args.text.now in
    let Q : Token × Bor (List ℕ) → Type 0 = λ r. IsNextLexeme alphabet.Mime (token_view r.0) r.1.now t in
    let R : Token × Bor (List ℕ) → Type 0 = λ r. mime_lexemes t ≡ token_view r.0 ∷ mime_lexemes r.1.now in
    match_map {Q = Q} {Q' = R} _ (none_in alphabet.Mime t) (λ r. next_in alphabet.Mime (token_view r.0) r.1.now t) c.next_lexeme.ensures.value
