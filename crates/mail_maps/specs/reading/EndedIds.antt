-- Ids as they are read into one text, each with its end.
use Rattle.std.specs.Prelude.{ℕ, List, [], ◌∷◌, ◌++◌}

abbrev pub ended : List (List ℕ) → List ℕ
ended [] = []
ended (id ∷ ids) = (id ++ 62 ∷ []) ++ ended ids
