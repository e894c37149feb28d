-- How the code reads the shape of an encoded word: part by part.
use Rattle.std.specs.Prelude.{◌≡◌, ℕ, List, ◌∷◌, ◌++◌}
use Rattle.text_words.specs.Cuts.{Each}
use Rattle.header_words.specs.EncodedWords.{is_encoded}

-- the text begins with a part and "?", and rest follows them
pub record HasPart (rest t : List ℕ) : Type 0 where
  pub part : List ℕ
  pub whole : t ≡ part ++ 63 ∷ rest
  pub printed : Each is_encoded part

-- two parts
abbrev pub HasTwo : List ℕ → List ℕ → Type 0
HasTwo rest t = (m : List ℕ) × HasPart m t × HasPart rest m

-- three parts
abbrev pub HasThree : List ℕ → List ℕ → Type 0
HasThree rest t = (m : List ℕ) × HasTwo m t × HasPart rest m

-- three parts, then "="
abbrev pub HasEnd : List ℕ → List ℕ → Type 0
HasEnd rest t = HasThree (61 ∷ rest) t

-- the shape of an encoded word
pub record HasWord (rest t : List ℕ) : Type 0 where
  pub inner : List ℕ
  pub whole : t ≡ 61 ∷ 63 ∷ inner
  pub end : HasEnd rest inner
