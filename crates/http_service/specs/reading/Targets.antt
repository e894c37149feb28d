-- The scheme of a target.
use Rattle.std.specs.Prelude.{◌≡◌, ◌++◌, ℕ, List, Option, Some, None, codes}
use Rattle.httparse.specs.Grammar.{LineEnd, print_blank}
use Rattle.text_words.specs.LineEnds.{line_end_len}
use Rattle.text_words.specs.Cuts.{Each}
use Rattle.http_service.specs.Heads.{BeginsWithLetter, is_scheme_octet}

-- a scheme and `://` stand before the rest
abbrev pub HasScheme : List ℕ → List ℕ → Type 0
HasScheme target rest = (scheme : List ℕ) × (target ≡ scheme ++ (codes "://" ++ rest)) × BeginsWithLetter scheme × Each is_scheme_octet scheme

abbrev pub IsAfterScheme : List ℕ → Option (List ℕ) → Type 0
IsAfterScheme target (Some rest) = HasScheme target rest
IsAfterScheme target None = (rest : List ℕ) → HasScheme target rest → ⊥

-- empty lines stand before the rest, which begins with none
abbrev pub IsAfterBlankLines : List ℕ → List ℕ → Type 0
IsAfterBlankLines octets rest = (ends : List LineEnd) × (octets ≡ print_blank ends ++ rest) × (line_end_len rest ≡ 0)
