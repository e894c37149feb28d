-- The tokens and the lexemes at the front of a text, as functions on lists.
use Rattle.std.specs.Prelude.{◌≡◌, ◌≢◌, ℕ, zero, suc, List, [], ◌∷◌, length, drop, Option, Some, None}
use Rattle.std.specs.List.{filter}
use Rattle.header_tokens.specs.declared.token.Alphabet.{Alphabet}
use Rattle.header_tokens.specs.Tokens.{Spelled}
use Rattle.header_tokens.specs.reading.TokenReading.{spelled_in}
use Rattle.header_tokens.specs.Lexemes.{is_lexeme}

abbrev pub tokens_then : Option (Spelled × ℕ) → (List ℕ → List Spelled) → List ℕ → List Spelled
tokens_then None more t = []
tokens_then (Some p) more t = p.0 ∷ more (drop p.1 t)

-- the tokens at the front, n at most
unfoldable pub tokens_within : Alphabet → ℕ → List ℕ → List Spelled
tokens_within a zero t = []
tokens_within a (suc n) t = tokens_then (spelled_in a t) (tokens_within a n) t

abbrev pub rest_then : Option (Spelled × ℕ) → (List ℕ → List ℕ) → List ℕ → List ℕ
rest_then None more t = t
rest_then (Some p) more t = more (drop p.1 t)

-- what follows them
unfoldable pub rest_within : Alphabet → ℕ → List ℕ → List ℕ
rest_within a zero t = t
rest_within a (suc n) t = rest_then (spelled_in a t) (rest_within a n) t

-- the tokens at the front, up to where none begins
unfoldable pub tokens_in : Alphabet → List ℕ → List Spelled
tokens_in a t = tokens_within a (length t) t

-- what follows them
unfoldable pub rest_in : Alphabet → List ℕ → List ℕ
rest_in a t = rest_within a (length t) t

-- the lexemes among them
unfoldable pub lexemes_in : Alphabet → List ℕ → List Spelled
lexemes_in a t = filter is_lexeme (tokens_in a t)

-- v is the first lexeme of the text, and more follows it
pub record ReadsLexeme (a : Alphabet) (v : Spelled) (more t : List ℕ) : Type 0 where
  pub lexemes : lexemes_in a t ≡ v ∷ lexemes_in a more
  pub some : v.text ≢ []
