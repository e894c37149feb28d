-- The keywords of an Email (RFC 8621 section 4.1.1), from the flags of its message (RFC 9051 section 2.3.2).
use Rattle.std.specs.Prelude.{ℕ, List, [], ◌∷◌, Bool, false, not, ◌&&◌, ◌==◌, if◌then◌else◌, codes}
use Rattle.std.specs.List.{list_any, flat_map}
use Rattle.std.specs.Str.{bytes_eq}
use Rattle.std.specs.declared.cmp.Ordering.{Ordering}
use Rattle.std.specs.Ordering.{nat_cmp}
use Rattle.std.specs.Cmp.Lexicographic.{slice_cmp}
use Rattle.std.specs.BTreeSet.{insert_key}

-- whether the name is among these
abbrev pub has_name : List ℕ → List (List ℕ) → Bool
has_name name names = list_any (bytes_eq name) names

-- these without repeats, in order, put among those before
abbrev pub sorted_into : {K : Type 0} → (K → K → Ordering) → List K → List K → List K
sorted_into cmp before [] = before
sorted_into cmp before (x ∷ xs) = sorted_into cmp (insert_key cmp before x) xs

-- whether a flag begins with "\"
abbrev pub is_system : List ℕ → Bool
is_system [] = false
is_system (c ∷ t) = c == 92

-- four flags of the system are keywords, the others are hidden, and any other flag is a keyword itself
abbrev pub keyword_of : List ℕ → List (List ℕ)
keyword_of flag =
    if bytes_eq flag (codes "\\seen") then codes "$seen" ∷ []
    else if bytes_eq flag (codes "\\answered") then codes "$answered" ∷ []
    else if bytes_eq flag (codes "\\flagged") then codes "$flagged" ∷ []
    else if bytes_eq flag (codes "\\draft") then codes "$draft" ∷ []
    else if is_system flag then []
    else flag ∷ []

-- the keywords of flags, sorted, each once
abbrev pub keywords_of : List (List ℕ) → List (List ℕ)
keywords_of flags = sorted_into (slice_cmp nat_cmp) [] (flat_map keyword_of flags)

-- whether an Email with these keywords is unread
abbrev pub is_unread : List (List ℕ) → Bool
is_unread keywords = not (has_name (codes "$seen") keywords) && not (has_name (codes "$draft") keywords)
