-- The header of a message, as BODY[HEADER] tells it (RFC 9051 section 6.4.5.1, RFC 5322 section 2.1).
use Rattle.std.specs.Prelude.{ℕ, ◌==◌, ◌&&◌, nat_lt, Bool, List, [], ◌∷◌, take, if◌then◌else◌}
use Rattle.text_words.specs.LineEnds.{line_end_len}

-- an empty line stands at the front
abbrev pub begins_with_empty_line : List ℕ → Bool
begins_with_empty_line t = nat_lt 0 (line_end_len t)

abbrev pub empty_line : List ℕ → List ℕ
empty_line t = take (line_end_len t) t

-- up to and with the first LF behind which an empty line stands, and that line; the whole where there is none
abbrev pub through_empty_line : List ℕ → List ℕ
through_empty_line [] = []
through_empty_line (c ∷ t) = if (c == 10) && begins_with_empty_line t then c ∷ empty_line t else c ∷ through_empty_line t

-- up to and with the first empty line, or the whole
abbrev pub header_of : List ℕ → List ℕ
header_of t = if begins_with_empty_line t then empty_line t else through_empty_line t
