-- Words in texts, where A to Z count as a to z (RFC 8621 section 4.4.1).
use Rattle.std.specs.Prelude.{◌≡◌, ℕ, List, ◌++◌}
use Rattle.std.specs.List.{AllByRecursion}
use Rattle.text_words.specs.Octets.{SameText}

-- a part of the text is the word
pub record HasWord (word text : List ℕ) : Type 0 where
  pub before : List ℕ
  pub found : List ℕ
  pub after : List ℕ
  pub whole : text ≡ before ++ (found ++ after)
  pub same : SameText found word

-- each of the words stands in the text
abbrev pub HasWords : List (List ℕ) → List ℕ → Type 0
HasWords words text = AllByRecursion (λ word. HasWord word text) words
