-- Texts that may be missing, one after another.
use Rattle.std.specs.Prelude.{ℕ, List, [], ◌∷◌, ◌++◌, Option, Some, None}

abbrev pub joined : List (Option (List ℕ)) → List ℕ
joined [] = []
joined (None ∷ texts) = joined texts
joined (Some text ∷ texts) = text ++ joined texts
