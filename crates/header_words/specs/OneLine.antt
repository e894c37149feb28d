-- Texts as one line without control characters.
use Rattle.std.specs.Prelude.{ℕ, ◌&&◌, ◌||◌, ◌==◌, if◌then◌else◌, List, [], ◌∷◌}
use Rattle.std.specs.List.{flat_map}
use Rattle.text_words.specs.Cuts.{back}
use Rattle.text_words.specs.LineEnds.{begins_with_lf}
use Rattle.text_words.specs.Octets.{is_white}
use Rattle.header_words.specs.EncodedWords.{is_control}

-- an octet before a text in which each white space with a line end is one LF
abbrev pub with_octet : ℕ → List ℕ → List ℕ
with_octet c t =
    if c == 10 then 10 ∷ back is_white t
    else if is_white c && begins_with_lf t then t
    else c ∷ t

-- each longest white space that has a line end is one LF
abbrev pub with_ends_alone : List ℕ → List ℕ
with_ends_alone [] = []
with_ends_alone (c ∷ t) = with_octet c (with_ends_alone t)

-- a line end and a tab are a space, other control characters are dropped
abbrev pub line_octet : ℕ → List ℕ
line_octet c =
    if c == 10 || c == 9 then 32 ∷ []
    else if is_control c then []
    else c ∷ []

-- White space with a line end in it is one space, a tab is a space, other control characters are dropped.
abbrev pub one_line : List ℕ → List ℕ
one_line t = flat_map line_octet (with_ends_alone t)
