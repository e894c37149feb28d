-- Text with literals: where `{n}` stands directly before CR LF, n octets and more text follow. Braces round anything
-- else are text.
use Rattle.std.specs.Prelude.{◌≡◌, ℕ, zero, suc, ◌<◌, ◌≤◌, List, [], ◌∷◌, ◌++◌, length}
use Rattle.imap_types.specs.Octets.{is_digit, is_text, is_inside}
use Rattle.imap_types.specs.Texts.{Each, crlf, literal_limit}
use Rattle.imap_types.specs.Numbers.{value_from}

-- the text ends in a count in braces
pub record EndsInCount (n : ℕ) (text : List ℕ) : Type 0 where
  pub front : List ℕ
  pub digits : List ℕ
  pub whole : text ≡ front ++ 123 ∷ digits ++ 125 ∷ []
  pub are_digits : Each is_digit digits
  pub some : 0 < length digits
  pub few : length digits ≤ 8
  pub value : n ≡ value_from 0 digits

pub record IsLastLine (t : List ℕ) : Type 0 where
  pub text : List ℕ
  pub whole : t ≡ text ++ crlf
  pub text_is : Each is_text text
  pub no_count : (n : ℕ) → EndsInCount n text → ⊥

pub record IsLiteralLine (Rest : List ℕ → Type 0) (t : List ℕ) : Type 0 where
  pub text : List ℕ
  pub octets : List ℕ
  pub rest : List ℕ
  pub whole : t ≡ text ++ 13 ∷ 10 ∷ octets ++ rest
  pub text_is : Each is_text text
  pub counted : EndsInCount (length octets) text
  pub most : length octets ≤ literal_limit
  pub inside : Each is_inside octets
  pub goes_on : Rest rest

-- with n literals
abbrev pub IsFree : ℕ → List ℕ → Type 0
IsFree zero t = IsLastLine t
IsFree (suc literals) t = IsLiteralLine (IsFree literals) t
