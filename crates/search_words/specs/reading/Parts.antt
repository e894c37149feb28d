-- Search texts part by part, from the front.
use Rattle.std.specs.Prelude.{ℕ, zero, suc, Bool, true, false, ◌==◌, if◌then◌else◌, List, [], ◌∷◌, Option, Some, None}
use Rattle.text_words.specs.Cuts.{front, back}
use Rattle.text_words.specs.Octets.{is_white}
use Rattle.search_words.specs.SearchTexts.{is_mark, is_special, closes, is_in_word}

-- an octet more
abbrev pub with_octet : ℕ → Option (List ℕ × List ℕ) → Option (List ℕ × List ℕ)
with_octet c None = None
with_octet c (Some p) = Some (c ∷ p.0, p.1)

-- the phrase that a mark opened, and the rest; a backslash may have come that isn't part of the phrase yet
unfoldable pub phrase_from : ℕ → Bool → List ℕ → Option (List ℕ × List ℕ)
phrase_from mark quoting [] = None
phrase_from mark true (c ∷ t) = if is_special c then with_octet c (phrase_from mark false t) else with_octet 92 (with_octet c (phrase_from mark false t))
phrase_from mark false (c ∷ t) = if closes mark c t then Some ([], t) else if c == 92 then phrase_from mark true t else with_octet c (phrase_from mark false t)

-- a word or a phrase, or nothing, and the rest
abbrev pub phrase_or_nothing : Option (List ℕ × List ℕ) → List ℕ → List ℕ × List ℕ
phrase_or_nothing None t = ([], t)
phrase_or_nothing (Some p) t = p

abbrev pub part_at : ℕ → List ℕ → List ℕ × List ℕ
part_at c t =
    if is_white c then ([], t)
    else if is_mark c then phrase_or_nothing (phrase_from c false t) t
    else (c ∷ front is_in_word t, back is_in_word t)

-- what isn't empty is asked
abbrev pub with_word : List ℕ → List (List ℕ) → List (List ℕ)
with_word [] words = words
with_word (c ∷ t) words = (c ∷ t) ∷ words

-- as many parts as this at most, each of which has an octet
unfoldable pub words_from : ℕ → List ℕ → List (List ℕ)
words_from n [] = []
words_from zero (c ∷ t) = []
words_from (suc n) (c ∷ t) = with_word (part_at c t).0 (words_from n (part_at c t).1)
