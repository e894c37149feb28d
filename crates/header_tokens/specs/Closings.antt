-- Brackets of a value that are closed. What opens and nothing closes, as wrong senders write it, is an octet like others.
use Rattle.std.specs.Prelude.{◌≡◌, ◌≢◌, ℕ, Bool, not, ◌==◌, ◌⊎◌, List, [], ◌∷◌, ◌++◌}
use Rattle.text_words.specs.Cuts.{Each}
use Rattle.header_tokens.specs.Tokens.{none, IsQuoted, IsComment, IsBracketed}

-- with its square brackets
abbrev pub IsLiteral : List ℕ → Type 0
IsLiteral t = IsBracketed 91 none 93 t

abbrev pub is_no_greater_octet : ℕ → Bool
is_no_greater_octet c = not (c == 62)

-- "<", what stands up to the next ">", and that
pub record IsAngle (t : List ℕ) : Type 0 where
  pub inner : List ℕ
  pub whole : t ≡ 60 ∷ (inner ++ 62 ∷ [])
  pub first : Each is_no_greater_octet inner

-- what is closed: a quoted text, a comment, a domain literal, or angle brackets
abbrev pub IsClosed : List ℕ → Type 0
IsClosed t = IsQuoted t ⊎ (IsComment t ⊎ (IsLiteral t ⊎ IsAngle t))

-- the text begins with nothing that is closed
abbrev pub BeginsUnclosed : List ℕ → Type 0
BeginsUnclosed t = (x y : List ℕ) → IsClosed x → t ≢ x ++ y
