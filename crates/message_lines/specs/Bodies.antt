-- Bodies of leaves as they are written: in base64 (RFC 2045 section 6.8).
use Rattle.std.specs.Prelude.{ℕ, zero, suc, Bool, false, ◌&&◌, not, ◌==◌, if◌then◌else◌, List, [], ◌∷◌, ◌++◌}
use Rattle.base64.specs.Engines.{standard}
use Rattle.base64.specs.GeneralPurpose.{encode_of}
use Rattle.message_lines.specs.Folding.{crlf}

-- a text in lines, where the first has room for so many octets more, and has some
unfoldable pub in_lines : ℕ → List ℕ → List ℕ
in_lines room [] = crlf
in_lines zero (c ∷ t) = 13 ∷ 10 ∷ c ∷ in_lines 75 t
in_lines (suc room) (c ∷ t) = c ∷ in_lines room t

-- lines of 76 octets, of which the last may have fewer; each ends in CR LF
unfoldable pub lines_of_76 : List ℕ → List ℕ
lines_of_76 [] = []
lines_of_76 (c ∷ t) = c ∷ in_lines 75 t

unfoldable pub base64_lines : List ℕ → List ℕ
base64_lines octets = lines_of_76 (encode_of standard octets)

-- Each LF is one with a CR before it: where none stands there, one is put there. `behind_cr` says whether a CR stands before
-- the text.
abbrev pub with_cr : Bool → List ℕ → List ℕ
with_cr behind_cr [] = []
with_cr behind_cr (c ∷ t) = (if c == 10 && not behind_cr then 13 ∷ 10 ∷ [] else c ∷ []) ++ with_cr (c == 13) t

-- a text whose lines end in CR LF, as those of a message do (RFC 5322 section 2.3)
unfoldable pub with_crlf : List ℕ → List ℕ
with_crlf t = with_cr false t
