-- Lexemes: the tokens of a value without white space and comments.
use Rattle.std.specs.Prelude.{◌≡◌, ◌≢◌, Bool, true, false, List, [], ◌∷◌, ℕ}
use Rattle.std.specs.List.{filter}
use Rattle.text_words.specs.Sequence.{Starts}
use Rattle.header_tokens.specs.declared.token.Alphabet.{Alphabet}
use Rattle.header_tokens.specs.declared.token.Kind.{Kind}
use Rattle.header_tokens.specs.declared.token.Kind.TheVariants as kind
use Rattle.header_tokens.specs.Tokens.{Spelled, IsToken, AreTokens, AreLeading}

abbrev pub is_lexeme_kind : Kind → Bool
is_lexeme_kind kind.Space = false
is_lexeme_kind kind.Comment = false
is_lexeme_kind _ = true

abbrev pub is_lexeme : Spelled → Bool
is_lexeme s = is_lexeme_kind s.kind

-- the lexemes of a text
pub record AreLexemes (a : Alphabet) (lexemes : List Spelled) (t : List ℕ) : Type 0 where
  pub tokens : List Spelled
  pub are : AreTokens a tokens t
  pub lexemes_are : lexemes ≡ filter is_lexeme tokens

-- the lexemes at the front of a text, up to where no token begins
pub record AreLeadingLexemes (a : Alphabet) (lexemes : List Spelled) (t : List ℕ) : Type 0 where
  pub tokens : List Spelled
  pub rest : List ℕ
  pub are : AreLeading a tokens rest t
  pub lexemes_are : lexemes ≡ filter is_lexeme tokens

-- the lexemes of a text are v, which has an octet, and those of what follows it
pub record IsNextLexeme (a : Alphabet) (v : Spelled) (more t : List ℕ) : Type 0 where
  pub lexemes : (ls : List Spelled) → AreLeadingLexemes a ls more → AreLeadingLexemes a (v ∷ ls) t
  pub some : v.text ≢ []

-- the text begins with these tokens, each white space or a comment, then the token v, and rest follows it
abbrev pub BeginsAfter : Alphabet → List Spelled → Spelled → List ℕ → List ℕ → Type 0
BeginsAfter a [] v rest t = Starts (IsToken a) v (λ (r : List ℕ). r ≡ rest) t
BeginsAfter a (g ∷ gs) v rest t = (is_lexeme g ≡ false) × Starts (IsToken a) g (BeginsAfter a gs v rest) t

-- the first lexeme of the text is v, and rest follows it
pub record BeginsWithLexeme (a : Alphabet) (v : Spelled) (rest t : List ℕ) : Type 0 where
  pub gaps : List Spelled
  pub begins : BeginsAfter a gaps v rest t
  pub is : is_lexeme v ≡ true
