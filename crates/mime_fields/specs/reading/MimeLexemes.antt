-- The lexemes of a field of MIME, as a function on lists.
use Rattle.std.specs.Prelude.{ℕ, List}
use Rattle.header_tokens.specs.declared.token.Alphabet.TheVariants as alphabet
use Rattle.header_tokens.specs.Tokens.{Spelled}
use Rattle.header_tokens.specs.reading.LexemeReading.{lexemes_in}

abbrev pub mime_lexemes : List ℕ → List Spelled
mime_lexemes t = lexemes_in alphabet.Mime t
