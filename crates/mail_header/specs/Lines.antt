-- Texts without their line ends (RFC 5322 section 2.1).
use Rattle.std.specs.Prelude.{ℕ, Bool, false, ◌&&◌, ◌||◌, ◌==◌, if◌then◌else◌, List, [], ◌∷◌}
use Rattle.text_words.specs.LineEnds.{begins_with_lf}

abbrev pub begins_with_cr : List ℕ → Bool
begins_with_cr [] = false
begins_with_cr (c ∷ t) = c == 13

-- the text is the end of a line and no more
abbrev pub is_line_end : List ℕ → Bool
is_line_end [] = false
is_line_end (c ∷ []) = c == 10
is_line_end (c ∷ d ∷ []) = c == 13 && d == 10
is_line_end (c ∷ d ∷ e ∷ t) = false

-- the text without the end of its last line
abbrev pub without_end : List ℕ → List ℕ
without_end [] = []
without_end (c ∷ t) = if is_line_end (c ∷ t) then [] else c ∷ without_end t

-- the text without its line ends
abbrev pub unfolded : List ℕ → List ℕ
unfolded [] = []
unfolded (c ∷ t) = if c == 10 || (c == 13 && begins_with_lf t) then unfolded t else c ∷ unfolded t
