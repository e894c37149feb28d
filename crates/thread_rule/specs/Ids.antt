-- Message ids in one text (RFC 5322 section 3.6.4): each with the ">" that ends it.
use Rattle.std.specs.Prelude.{ℕ, List, [], ◌∷◌, Bool, not, ◌==◌, if◌then◌else◌, filter}
use Rattle.std.specs.Str.{bytes_eq}

-- an octet within an id
abbrev pub is_within : ℕ → Bool
is_within c = not (c == 62)

-- the first of these ids, where there is one, with an octet in front
abbrev pub led_by : ℕ → List (List ℕ) → List (List ℕ)
led_by c [] = []
led_by c (id ∷ ids) = (c ∷ id) ∷ ids

-- the ids of a text; octets behind the last ">" are none
unfoldable pub ids_in : List ℕ → List (List ℕ)
ids_in [] = []
ids_in (c ∷ t) = if c == 62 then [] ∷ ids_in t else led_by c (ids_in t)

-- each of these once, where it stands first
abbrev pub each_once : List (List ℕ) → List (List ℕ)
each_once [] = []
each_once (id ∷ ids) = id ∷ filter (λ other. not (bytes_eq id other)) (each_once ids)
