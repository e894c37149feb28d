-- How the code reads parameters.
use Rattle.std.specs.Prelude.{◌≡◌, ℕ, true, List, [], ◌∷◌}
use Rattle.text_words.specs.Octets.{is_same_text}
use Rattle.header_tokens.specs.declared.token.Alphabet.TheVariants as alphabet
use Rattle.header_tokens.specs.Tokens.{Spelled}
use Rattle.header_tokens.specs.Kinds.{has_mark}
use Rattle.header_tokens.specs.Lexemes.{AreLexemes, BeginsWithLexeme}
use Rattle.mime_fields.specs.declared.parameters.ValueForm.{ValueForm}
use Rattle.mime_fields.specs.declared.parameters.ValueForm.TheVariants as form
use Rattle.mime_fields.specs.Parameters.{atom, quoted, IsParameter}

-- neither a quoted text comes first, nor is it a token alone
pub record IsNeither (raw : List ℕ) : Type 0 where
  pub no_quoted : (x rest : List ℕ) → BeginsWithLexeme alphabet.Mime (quoted x) rest raw → ⊥
  pub no_token : (x : List ℕ) → AreLexemes alphabet.Mime (atom x ∷ []) raw → ⊥

abbrev pub HasForm : ValueForm → List ℕ → Type 0
HasForm (form.Quoted x) raw = (rest : List ℕ) × BeginsWithLexeme alphabet.Mime (quoted x.now) rest raw
HasForm (form.Token x) raw = AreLexemes alphabet.Mime (atom x.now ∷ []) raw
HasForm form.Written raw = IsNeither raw

-- a name and "=" stand at the front of the piece, and raw follows
pub record HasName (name raw piece : List ℕ) : Type 0 where
  pub behind_name : List ℕ
  pub equals : Spelled
  pub name_is : BeginsWithLexeme alphabet.Mime (atom name) behind_name piece
  pub equals_is : BeginsWithLexeme alphabet.Mime equals raw behind_name
  pub is_equals : has_mark 61 equals ≡ true

-- the piece is a parameter of this name
pub record IsNamed (name value piece : List ℕ) : Type 0 where
  pub written : List ℕ
  pub is : IsParameter written value piece
  pub same : is_same_text written name ≡ true
