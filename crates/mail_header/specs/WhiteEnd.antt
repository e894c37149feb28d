-- Texts without white space at their end, and texts that are none where they are empty.
use Rattle.std.specs.Prelude.{ℕ, if◌then◌else◌, List, [], ◌∷◌, Option, Some, None}
use Rattle.std.specs.List.{list_all}
use Rattle.text_words.specs.Octets.{is_white}

abbrev pub without_white_end : List ℕ → List ℕ
without_white_end [] = []
without_white_end (c ∷ t) = if list_all is_white (c ∷ t) then [] else c ∷ without_white_end t

abbrev pub some_text : List ℕ → Option (List ℕ)
some_text [] = None
some_text (c ∷ t) = Some (c ∷ t)
