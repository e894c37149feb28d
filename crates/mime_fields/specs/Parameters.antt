-- Tokens and parameters of a field of MIME (RFC 2045 section 5.1). Each piece of the value but the first may be a parameter.
use Rattle.std.specs.Prelude.{◌≡◌, ◌≢◌, ℕ, Bool, true, false, ◌&&◌, ◌==◌, if◌then◌else◌, List, [], ◌∷◌, Option, Some, None}
use Rattle.std.specs.List.{list_all}
use Rattle.std.specs.Option.{option_map}
use Rattle.text_words.specs.Cuts.{back}
use Rattle.text_words.specs.Octets.{is_same_text, is_white}
use Rattle.header_words.specs.Charsets.{is_ascii}
use Rattle.mail_header.specs.Lines.{unfolded}
use Rattle.mail_header.specs.WhiteEnd.{without_white_end}
use Rattle.header_tokens.specs.declared.token.Alphabet.TheVariants as alphabet
use Rattle.header_tokens.specs.declared.token.Kind.{Kind}
use Rattle.header_tokens.specs.declared.token.Kind.TheVariants as kind
use Rattle.header_tokens.specs.Tokens.{Spelled}
use Rattle.header_tokens.specs.Lexemes.{AreLexemes, BeginsWithLexeme}
use Rattle.header_tokens.specs.Kinds.{is_atom, has_mark}
use Rattle.header_tokens.specs.Words.{bracketed_text, unquoted}
use Rattle.mime_fields.specs.Pieces.{BeginsWithPiece}

-- token: octets of US-ASCII that are no specials
abbrev pub is_token : Spelled → Bool
is_token s = is_atom s && list_all is_ascii s.text

abbrev pub atom : List ℕ → Spelled
atom t = record { kind = kind.Atom; text = t }

abbrev pub is_quoted_kind : Kind → Bool
is_quoted_kind kind.Quoted = true
is_quoted_kind _ = false

abbrev pub is_quoted : Spelled → Bool
is_quoted s = is_quoted_kind s.kind

abbrev pub quoted : List ℕ → Spelled
quoted t = record { kind = kind.Quoted; text = t }

-- the text without white space at its ends
abbrev pub trimmed : List ℕ → List ℕ
trimmed t = without_white_end (back is_white t)

-- the text without a quotation mark in front
abbrev pub without_quote : List ℕ → List ℕ
without_quote [] = []
without_quote (c ∷ t) = if c == 34 then t else c ∷ t

-- What a wrong sender wrote for a value: all octets but white space at the ends, and a quotation mark in front that nothing
-- closes.
abbrev pub octets_written : List ℕ → List ℕ
octets_written t = trimmed (without_quote (trimmed t))

-- The value that stands in these octets, to the end of the piece. The right sender's is a quoted text or a token, and
-- octets above 127 are taken in both. Line ends stay in it. There is none without an octet beside them.
pub data IsValue : List ℕ → List ℕ → Type 0 where
  QuotedValue : (x rest raw : List ℕ) → BeginsWithLexeme alphabet.Mime (quoted x) rest raw → unquoted x ≢ [] → IsValue (bracketed_text x) raw
  TokenValue : (x raw : List ℕ) → AreLexemes alphabet.Mime (atom x ∷ []) raw → IsValue x raw
  WrittenValue : (raw : List ℕ) → ((x rest : List ℕ) → BeginsWithLexeme alphabet.Mime (quoted x) rest raw → ⊥)
      → ((x : List ℕ) → AreLexemes alphabet.Mime (atom x ∷ []) raw → ⊥) → octets_written raw ≢ [] → IsValue (octets_written raw) raw

-- the piece is a name, "=", and a value
pub record IsParameter (name value piece : List ℕ) : Type 0 where
  pub behind_name : List ℕ
  pub equals : Spelled
  pub raw : List ℕ
  pub name_is : BeginsWithLexeme alphabet.Mime (atom name) behind_name piece
  pub equals_is : BeginsWithLexeme alphabet.Mime equals raw behind_name
  pub is_equals : has_mark 61 equals ≡ true
  pub value_is : IsValue value raw

-- the piece is no parameter of this name, which is read without regard to case
abbrev pub IsOther : List ℕ → List ℕ → Type 0
IsOther name piece = (n v : List ℕ) → IsParameter n v piece → is_same_text n name ≡ false

-- The value of the first parameter of this name, if there is one, among the pieces that follow a semicolon.
pub data IsFirstNamed (name : List ℕ) : Option (List ℕ) → Option (List ℕ) → Type 0 where
  NoPiece : IsFirstNamed name None None
  Here : (t piece n value : List ℕ) (rest : Option (List ℕ)) → BeginsWithPiece piece rest t → IsParameter n value piece → is_same_text n name ≡ true
      → IsFirstNamed name (Some t) (Some value)
  Later : (t piece : List ℕ) (rest value : Option (List ℕ)) → BeginsWithPiece piece rest t → IsOther name piece → IsFirstNamed name rest value
      → IsFirstNamed name (Some t) value

-- the field's octets have the parameter of this name with this value, or none
pub record HasParameter (name t : List ℕ) (value : Option (List ℕ)) : Type 0 where
  pub first : List ℕ
  pub rest : Option (List ℕ)
  pub begins : BeginsWithPiece first rest t
  pub is : IsFirstNamed name rest value

-- the same without line ends
pub record HasUnfolded (name t : List ℕ) (value : Option (List ℕ)) : Type 0 where
  pub octets : Option (List ℕ)
  pub has : HasParameter name t octets
  pub value_is : value ≡ option_map unfolded octets
