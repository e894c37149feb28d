-- What the code's tokens are in the grammar.
use Rattle.std.specs.Prelude.{List, map}
use Rattle.header_tokens.specs.declared.token.Token.{Token}
use Rattle.header_tokens.specs.Tokens.{Spelled}

abbrev pub token_view : Token → Spelled
token_view t = record { kind = t.kind; text = t.text.now }

abbrev pub tokens_view : List Token → List Spelled
tokens_view ts = map token_view ts
