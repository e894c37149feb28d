use Rattle.std.proofs.Common.{ℕ, List, Bor}
use Rattle.header_tokens.specs.declared.token.Alphabet.TheVariants as alphabet
use Rattle.header_tokens.specs.declared.token.Token.{Token}
use Rattle.header_tokens.specs.Lexemes.{IsNextLexeme}
use Rattle.header_tokens.specs.TokenView.{token_view}
use Rattle.header_tokens.specs.reading.LexemeReading.{ReadsLexeme}
use Rattle.header_tokens.proofs.LexemeLemmas.{none_in, reads_next, match_map}
use Rattle.header_dates.proofs.pieces.mail_lexeme.Goals as goal

pub returns : goal.returns
returns c =
    let t = c.args.text.now in
    let Q : Token × Bor (List ℕ) → Type 0 = λ r. IsNextLexeme alphabet.Mail (token_view r.0) r.1.now t in
    let R : Token × Bor (List ℕ) → Type 0 = λ r. ReadsLexeme alphabet.Mail (token_view r.0) r.1.now t in
    match_map {Q = Q} {Q' = R} _ (none_in alphabet.Mail t) (λ r. reads_next alphabet.Mail (token_view r.0) r.1.now t) c.next_lexeme.ensures.value
