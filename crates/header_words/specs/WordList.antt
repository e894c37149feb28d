-- The encoded words that a text is written as (RFC 2047 sections 2 and 5): in utf-8, in the encoding "B".
use Rattle.std.specs.Prelude.{◌≡◌, ◌≢◌, ℕ, ◌≤◌, List, [], ◌∷◌, ◌++◌, length, codes}
use Rattle.std.specs.List.{flat_map}
use Rattle.std.specs.Str.{IsUtf8}
use Rattle.base64.specs.GeneralPurpose.{encode_of}
use Rattle.base64.specs.Engines.{standard}

-- the encoded word of a piece of a text
unfoldable pub utf8_word : List ℕ → List ℕ
utf8_word piece = codes "=?utf-8?B?" ++ (encode_of standard piece ++ codes "?=")

-- A piece at the front of a text, and what follows it: no character is cut, and the word has at most 75 octets.
pub record IsWordPiece (piece rest text : List ℕ) : Type 0 where
  pub whole : text ≡ piece ++ rest
  pub characters : IsUtf8 piece
  pub characters_behind : IsUtf8 rest
  pub fits : length (utf8_word piece) ≤ 75

-- the longest such piece
pub record IsLongestPiece (piece rest text : List ℕ) : Type 0 where
  pub is : IsWordPiece piece rest text
  pub longest : (other behind : List ℕ) → IsWordPiece other behind text → length other ≤ length piece

-- a text that isn't empty: its longest piece, and the rest
pub record FirstPiece (text : List ℕ) : Type 0 where
  pub piece : List ℕ
  pub rest : List ℕ
  pub some : text ≢ []
  pub longest : IsLongestPiece piece rest text

-- The words of a text: each is the word of the longest piece of what is left. The empty text has none.
pub data AreWords : List (List ℕ) → List ℕ → Type 0 where
  NoneLeft : AreWords [] []
  Next : (text : List ℕ) (words : List (List ℕ)) (first : FirstPiece text) → AreWords words first.rest → AreWords (utf8_word first.piece ∷ words) text

-- the words, with the same text between each two
abbrev pub joined : List ℕ → List (List ℕ) → List ℕ
joined between [] = []
joined between (word ∷ words) = word ++ flat_map (λ (w : List ℕ). between ++ w) words

-- CR LF and a space, which fold a header line (RFC 5322 section 2.2.3)
abbrev pub line_fold : List ℕ
line_fold = 13 ∷ 10 ∷ 32 ∷ []

-- what a text is written as
pub record IsWritten (text value : List ℕ) : Type 0 where
  pub words : List (List ℕ)
  pub are : AreWords words text
  pub folds : value ≡ joined line_fold words
