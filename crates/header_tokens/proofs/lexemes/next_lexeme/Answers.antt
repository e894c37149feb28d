use Rattle.std.proofs.Common.{ℕ, List, Bor}
use Rattle.header_tokens.specs.declared.token.Token.{Token}
use Rattle.header_tokens.specs.Lexemes.{IsNextLexeme, BeginsWithLexeme}
use Rattle.header_tokens.specs.TokenView.{token_view}
use Rattle.header_tokens.specs.reading.LexemeReading.{ReadsLexeme}
use Rattle.header_tokens.proofs.LexemeLemmas.{next_is, none_is, none_first, match_map}
use Rattle.header_tokens.proofs.lexemes.next_lexeme.Goals as goal

pub returns-clause-value : goal.returns-clause-value
returns-clause-value c =
    let a = c.args.alphabet in
    let t = c.args.text.now in
    let Q : Token × Bor (List ℕ) → Type 0 = λ r. ReadsLexeme a (token_view r.0) r.1.now t in
    let R : Token × Bor (List ℕ) → Type 0 = λ r. IsNextLexeme a (token_view r.0) r.1.now t in
    match_map {Q = Q} {Q' = R} _ (none_is a t) (λ r. next_is a (token_view r.0) r.1.now t) c.lexeme_at.ensures.value

pub returns-clause-first : goal.returns-clause-first
returns-clause-first c =
    let a = c.args.alphabet in
    let t = c.args.text.now in
    let R : Token × Bor (List ℕ) → Type 0 = λ r. BeginsWithLexeme a (token_view r.0) r.1.now t in
    match_map {Q = R} {Q' = R} _ (none_first a t) (λ r b. b) c.lexeme_at.ensures.first
