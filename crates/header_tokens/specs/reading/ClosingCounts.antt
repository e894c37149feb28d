-- Which brackets are closed, read from the end of a text to its front.
use Rattle.std.specs.Prelude.{◌≡◌, ℕ, ◌+◌, ◌-◌, Bool, true, false, ◌==◌, nat_lt, if◌then◌else◌, List, [], ◌∷◌, ◌++◌, length, take}

-- how many closing parentheses have no partner in the text; `escaped` says that a backslash stands directly before it
unfoldable pub unmatched : Bool → List ℕ → ℕ
unmatched escaped [] = 0
unmatched true (c ∷ t) = unmatched false t
unmatched false (c ∷ t) =
    if c == 92 then unmatched true t
    else if c == 41 then unmatched false t + 1
    else if c == 40 then unmatched false t - 1
    else unmatched false t

-- whether this octet, a quotation mark or a bracket, closes what the text begins in
unfoldable pub has_closer : ℕ → Bool → List ℕ → Bool
has_closer closer escaped [] = false
has_closer closer true (c ∷ t) = has_closer closer false t
has_closer closer false (c ∷ t) = if c == 92 then has_closer closer true t else if c == closer then true else has_closer closer false t

unfoldable pub has_greater : List ℕ → Bool
has_greater [] = false
has_greater (c ∷ t) = if c == 62 then true else has_greater t

-- whether the octet opens what t closes
abbrev pub is_closed : ℕ → List ℕ → Bool
is_closed c t =
    if c == 40 then nat_lt 0 (unmatched false t)
    else if c == 34 then has_closer 34 false t
    else if c == 91 then has_closer 93 false t
    else if c == 60 then has_greater t
    else false

-- so of each octet, the last octet's first
abbrev pub closings : List ℕ → List Bool
closings [] = []
closings (c ∷ t) = closings t ++ (is_closed c t ∷ [])

-- the closings of a longer text tell those of this one, which is its end
abbrev pub TellClosings : List Bool → List ℕ → Type 0
TellClosings closed t = take (length t) closed ≡ closings t
