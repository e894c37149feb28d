-- Ids, each once, as they are read one after another.
use Rattle.std.specs.Prelude.{◌≡◌, ℕ, Bool, not, List, ◌++◌, filter}
use Rattle.std.specs.List.{list_any}
use Rattle.std.specs.Str.{bytes_eq}
use Rattle.thread_rule.specs.Ids.{ids_in}

-- whether one of these is the text
abbrev pub has_text : List ℕ → List (List ℕ) → Bool
has_text text ids = list_any (λ id. bytes_eq id text) ids

-- those that aren't among these
abbrev pub left_of : List (List ℕ) → List (List ℕ) → List (List ℕ)
left_of once ids = filter (λ id. not (has_text id once)) ids

-- the text ends behind an id, so that further ids may follow
abbrev pub EndsWhole : List ℕ → Type 0
EndsWhole s = (t : List ℕ) → ids_in (s ++ t) ≡ ids_in s ++ ids_in t
