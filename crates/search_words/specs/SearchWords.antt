-- What is asked by a search text: each text has one reading, which is this one.
use Rattle.std.specs.Prelude.{ℕ, nat_le, if◌then◌else◌, List, length, Option, Some, None}
use Rattle.search_words.specs.reading.Parts.{words_from}

unfoldable pub search_words : List ℕ → List (List ℕ)
search_words text = words_from (length text) text

-- these, where they aren't more than a hundred
abbrev pub words_asked : List ℕ → Option (List (List ℕ))
words_asked text = if nat_le (length (search_words text)) 100 then Some (search_words text) else None
