-- Texts in UTF-8 (RFC 3629) that are cut between two characters, and not within a tag of HTML (RFC 8621 section 4.2, maxBodyValueBytes).
use Rattle.std.specs.Prelude.{◌≡◌, ◌≤◌, ℕ, ◌-◌, Bool, true, not, ◌&&◌, ◌==◌, nat_lt, if◌then◌else◌, List, [], ◌∷◌, ◌++◌, length, take, drop}
use Rattle.std.specs.Bool.{MatchBool}
use Rattle.std.specs.List.{list_any}
use Rattle.text_words.specs.Octets.{is_between}
use Rattle.body_parts.specs.declared.cuts.TheConstants.{MAX_OPEN_TAG}

-- an octet within a character, after its first one (section 3)
abbrev pub is_continuation : ℕ → Bool
is_continuation c = is_between 128 191 c

-- the text doesn't begin within a character
abbrev pub begins_character : List ℕ → Bool
begins_character [] = true
begins_character (c ∷ t) = not (is_continuation c)

-- the place between these two texts is before or after a whole text, or between two characters of it
abbrev pub is_between_characters : List ℕ → List ℕ → Bool
is_between_characters [] rest = true
is_between_characters (c ∷ front) rest = begins_character rest

-- whole characters at the front of the text, of at most n octets
pub record IsFront (n : ℕ) (text front : List ℕ) : Type 0 where
  pub rest : List ℕ
  pub whole : text ≡ front ++ rest
  pub between : is_between_characters front rest ≡ true
  pub few : length front ≤ n

-- the longest such front
pub record IsCut (n : ℕ) (text front : List ℕ) : Type 0 where
  pub is_front : IsFront n text front
  pub longest : (other : List ℕ) → IsFront n text other → length other ≤ length front

-- ---- a text that ends within a tag

-- a `>` stands in the text
abbrev pub has_close : List ℕ → Bool
has_close text = list_any (λ c. c == 62) text

-- the text up to the first `<` behind which no `>` stands; all of it where there is none
unfoldable pub before_open_tag : List ℕ → List ℕ
before_open_tag [] = []
before_open_tag (c ∷ t) = if c == 60 && not (has_close t) then [] else c ∷ before_open_tag t

-- its last MAX_OPEN_TAG octets up to there, and all that stands before them
abbrev pub outside_tag : List ℕ → List ℕ
outside_tag text = take (length text - MAX_OPEN_TAG) text ++ before_open_tag (drop (length text - MAX_OPEN_TAG) text)

-- ---- bounds

-- The longest front; where octets of a text/html value were cut, it doesn't end within a tag.
pub record IsShortened (html : Bool) (n : ℕ) (text front : List ℕ) : Type 0 where
  pub cut : List ℕ
  pub is_cut : IsCut n text cut
  pub front_is : front ≡ (if html && nat_lt (length cut) (length text) then outside_tag cut else cut)

-- A text of at most n octets is made of this one, where 0 is no bound. It is truncated where octets were cut.
pub record IsBounded (html : Bool) (n : ℕ) (text front : List ℕ) (truncated : Bool) : Type 0 where
  pub front_is : MatchBool (n == 0) (front ≡ text) (IsShortened html n text front)
  pub truncated_is : truncated ≡ nat_lt (length front) (length text)
