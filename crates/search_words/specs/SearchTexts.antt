-- The words and phrases of a search text (RFC 8621 section 4.4.1).
use Rattle.std.specs.Prelude.{◌≡◌, ℕ, Bool, true, false, not, ◌&&◌, ◌||◌, ◌==◌, List, [], ◌∷◌}
use Rattle.text_words.specs.Cuts.{front, back}
use Rattle.text_words.specs.Octets.{is_white}

-- a quotation mark or an apostrophe
abbrev pub is_mark : ℕ → Bool
is_mark c = c == 34 || c == 39

-- an octet that has to be quoted by a backslash within a phrase
abbrev pub is_special : ℕ → Bool
is_special c = is_mark c || c == 92

-- nothing, or white space at the front
abbrev pub at_edge : List ℕ → Bool
at_edge [] = true
at_edge (c ∷ t) = is_white c

abbrev pub begins_special : List ℕ → Bool
begins_special [] = false
begins_special (c ∷ t) = is_special c

-- the octet closes a phrase that the mark opens, where this follows
abbrev pub closes : ℕ → ℕ → List ℕ → Bool
closes mark c t = c == mark && at_edge t

-- it is a backslash that quotes the octet behind it
abbrev pub quotes : ℕ → List ℕ → Bool
quotes c t = c == 92 && begins_special t

-- What a mark opens is a phrase, and a rest: up to the next mark of its kind that closes it and isn't quoted.
pub data IsPhrase (mark : ℕ) : List ℕ → List ℕ → List ℕ → Type 0 where
  Closing : (c : ℕ) (t : List ℕ) → closes mark c t ≡ true → IsPhrase mark (c ∷ t) [] t
  Quoted : (b c : ℕ) (t phrase rest : List ℕ) → quotes b (c ∷ t) ≡ true → IsPhrase mark t phrase rest → IsPhrase mark (b ∷ c ∷ t) (c ∷ phrase) rest
  Plain : (c : ℕ) (t phrase rest : List ℕ) → closes mark c t ≡ false → quotes c t ≡ false → IsPhrase mark t phrase rest → IsPhrase mark (c ∷ t) (c ∷ phrase) rest

abbrev pub is_in_word : ℕ → Bool
is_in_word c = not (is_white c)

-- White space, phrases, marks that nothing closes, and words, which go up to the next white space: it asks for these words and phrases.
-- An empty phrase asks nothing.
pub data IsSearchText : List ℕ → List (List ℕ) → Type 0 where
  Ends : IsSearchText [] []
  White : (c : ℕ) (t : List ℕ) (words : List (List ℕ)) → is_white c ≡ true → IsSearchText t words → IsSearchText (c ∷ t) words
  Phrase : (mark c : ℕ) (t phrase rest : List ℕ) (words : List (List ℕ)) → is_mark mark ≡ true → IsPhrase mark t (c ∷ phrase) rest
      → IsSearchText rest words → IsSearchText (mark ∷ t) ((c ∷ phrase) ∷ words)
  EmptyPhrase : (mark : ℕ) (t rest : List ℕ) (words : List (List ℕ)) → is_mark mark ≡ true → IsPhrase mark t [] rest
      → IsSearchText rest words → IsSearchText (mark ∷ t) words
  OpenMark : (mark : ℕ) (t : List ℕ) (words : List (List ℕ)) → is_mark mark ≡ true → ((phrase rest : List ℕ) → ¬ IsPhrase mark t phrase rest)
      → IsSearchText t words → IsSearchText (mark ∷ t) words
  Word : (c : ℕ) (t : List ℕ) (words : List (List ℕ)) → is_white c ≡ false → is_mark c ≡ false
      → IsSearchText (back is_in_word t) words → IsSearchText (c ∷ t) ((c ∷ front is_in_word t) ∷ words)
