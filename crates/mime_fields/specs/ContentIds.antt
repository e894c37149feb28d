-- Content-ID without white space and without one pair of angle brackets (RFC 8621 section 4.1.4). Comments are dropped around the
-- brackets alone: what stands between them is the id (RFC 2045 section 7), so that a parenthesis in it is an octet like others.
use Rattle.std.specs.Prelude.{◌≡◌, ◌≢◌, ℕ, Bool, true, false, not, ◌==◌, ◌&&◌, ◌||◌, List, [], ◌∷◌, ◌++◌, Option}
use Rattle.std.specs.List.{filter, flat_map}
use Rattle.text_words.specs.Cuts.{Each}
use Rattle.text_words.specs.Octets.{is_white}
use Rattle.text_words.specs.Sequence.{Sequence}
use Rattle.mail_header.specs.Lines.{unfolded}
use Rattle.mail_header.specs.WhiteEnd.{some_text}
use Rattle.mail_header.specs.RawForms.{raw_form}
use Rattle.header_tokens.specs.declared.token.Alphabet.TheVariants as alphabet
use Rattle.header_tokens.specs.Closings.{is_no_greater_octet}
use Rattle.header_tokens.specs.Kinds.{has_mark}
use Rattle.header_tokens.specs.Lexemes.{AreLexemes, BeginsWithLexeme}
use Rattle.header_tokens.specs.Tokens.{Spelled, IsComment, IsQuoted}

-- "<", what stands up to the next ">", and that; before and behind them there are only white space and comments
pub record IsEnclosed (inner t : List ℕ) : Type 0 where
  pub less : Spelled
  pub behind_less : List ℕ
  pub behind_greater : List ℕ
  pub begins : BeginsWithLexeme alphabet.Mime less behind_less t
  pub is_less : has_mark 60 less ≡ true
  pub whole : behind_less ≡ inner ++ 62 ∷ behind_greater
  pub no_greater : Each is_no_greater_octet inner
  pub ends : AreLexemes alphabet.Mime [] behind_greater

abbrev pub is_visible_octet : ℕ → Bool
is_visible_octet c = not (is_white c)

-- a quote, and where there are comments a parenthesis
abbrev pub is_opener : Bool → ℕ → Bool
is_opener comments c = (comments && c == 40) || c == 34

-- no comment and no quoted text begins the text
pub record IsUnclosed (t : List ℕ) : Type 0 where
  pub comment : (x y : List ℕ) → IsComment x → t ≢ x ++ y
  pub quoted : (x y : List ℕ) → IsQuoted x → t ≢ x ++ y

-- A unit of a value, which has comments or not, and what is kept of it. What follows a parenthesis or a quote that isn't closed
-- is one unit with it.
pub data IsUnit (comments : Bool) : List ℕ → List ℕ → List ℕ → Type 0 where
  White : (c : ℕ) (rest : List ℕ) → is_white c ≡ true → IsUnit comments [] (c ∷ []) rest
  Comment : (x rest : List ℕ) → comments ≡ true → IsComment x → IsUnit comments [] x rest
  Quoted : (x rest : List ℕ) → IsQuoted x → IsUnit comments x x rest
  Octet : (c : ℕ) (rest : List ℕ) → is_white c ≡ false → is_opener comments c ≡ false → IsUnit comments (c ∷ []) (c ∷ []) rest
  Unclosed : (c : ℕ) (t : List ℕ) → is_opener comments c ≡ true → IsUnclosed (c ∷ t) → IsUnit comments (filter is_visible_octet (c ∷ t)) (c ∷ t) []

-- what is kept of a text: white space in quoted texts stays, but ends of lines don't
pub record IsWithoutGaps (comments : Bool) (kept t : List ℕ) : Type 0 where
  pub units : List (List ℕ)
  pub are : Sequence (IsUnit comments) units t
  pub kept_is : kept ≡ unfolded (flat_map (λ (unit : List ℕ). unit) units)

-- one pair of angle brackets is taken off
pub data IsWithoutAngles : List ℕ → List ℕ → Type 0 where
  InAngles : (x : List ℕ) → IsWithoutAngles x (60 ∷ (x ++ 62 ∷ []))
  Bare : (t : List ℕ) → ((x : List ℕ) → t ≢ 60 ∷ (x ++ 62 ∷ [])) → IsWithoutAngles t t

-- The id of a raw value; there is none where nothing is left. A value that isn't enclosed, as wrong senders write it, is read without
-- the comments in it.
pub data IsContentId (raw : List ℕ) : Option (List ℕ) → Type 0 where
  Enclosed : (inner id : List ℕ) → IsEnclosed inner (raw_form raw) → IsWithoutGaps false id inner → IsContentId raw (some_text id)
  Loose : (kept id : List ℕ) → ((inner : List ℕ) → IsEnclosed inner (raw_form raw) → ⊥) → IsWithoutGaps true kept (raw_form raw) → IsWithoutAngles id kept
      → IsContentId raw (some_text id)
