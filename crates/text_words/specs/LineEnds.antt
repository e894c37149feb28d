-- Ends of lines (RFC 5322 section 2.1): LF, or CR LF.
use Rattle.std.specs.Prelude.{ℕ, Bool, false, ◌&&◌, ◌==◌, if◌then◌else◌, List, [], ◌∷◌}

pub data IsLineEnd : List ℕ → Type 0 where
  Lf : IsLineEnd (10 ∷ [])
  CrLf : IsLineEnd (13 ∷ 10 ∷ [])

abbrev pub begins_with_lf : List ℕ → Bool
begins_with_lf [] = false
begins_with_lf (c ∷ t) = c == 10

-- how many octets the end of the line at the front has
abbrev pub line_end_len : List ℕ → ℕ
line_end_len [] = 0
line_end_len (c ∷ t) = if c == 10 then 1 else if c == 13 && begins_with_lf t then 2 else 0
