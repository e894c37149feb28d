-- Values of any form (RFC 9051 section 9, tagged-ext-val):
--
--   value = atom / nstring / "(" [value *(SP value)] ")"
--
-- NIL is an atom, so a value without brackets is an astring.
use Rattle.std.specs.Prelude.{◌≡◌, ◌⊎◌, ℕ, zero, suc, List, [], ◌∷◌, ◌++◌}
use Rattle.imap_types.specs.Lines.{joined}
use Rattle.imap_types.specs.Strings.{IsAString}

abbrev pub AllOf : (List ℕ → Type 0) → List (List ℕ) → Type 0
AllOf Of [] = Unit {0}
AllOf Of (t ∷ ts) = Of t × AllOf Of ts

abbrev pub IsFlat : List ℕ → Type 0
IsFlat t = (s : List ℕ) × IsAString s t

-- "(" [value *(SP value)] ")", of values of the kind
abbrev pub IsListOf : (List ℕ → Type 0) → List ℕ → Type 0
IsListOf Of t = (vs : List (List ℕ)) × AllOf Of vs × (t ≡ 40 ∷ joined vs ++ 41 ∷ [])

-- with brackets at most so deep
abbrev pub IsValue : ℕ → List ℕ → Type 0
IsValue zero t = IsFlat t
IsValue (suc depth) t = IsFlat t ⊎ IsListOf (IsValue depth) t

-- the brackets that may be open at once
abbrev pub nesting : ℕ
nesting = 64
