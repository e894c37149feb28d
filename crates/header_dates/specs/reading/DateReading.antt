-- Dates as functions on pieces: each production reads what stands at the front, and gives its value and what follows it.
use Rattle.std.specs.Prelude.{ℕ, ℤ, ◌&&◌, ◌==◌, if◌then◌else◌, List, [], ◌∷◌, ◌++◌, Option, Some, None}
use Rattle.header_dates.specs.declared.date.Clock.{Clock}
use Rattle.header_dates.specs.declared.date.Day.{Day}
use Rattle.header_dates.specs.declared.date.Moment.{Moment}
use Rattle.header_dates.specs.declared.pieces.Piece.{Piece as Code}
use Rattle.header_dates.specs.declared.pieces.Piece.TheVariants as code
use Rattle.header_dates.specs.declared.pieces.PartPlace.{PartPlace}
use Rattle.header_tokens.specs.declared.token.Alphabet.TheVariants as alphabet
use Rattle.header_tokens.specs.Tokens.{Spelled}
use Rattle.header_tokens.specs.Kinds.{has_mark, is_atom}
use Rattle.header_dates.specs.Dates.{DatePiece, Digits, Letters, Signed, Octet, Other, runs}
use Rattle.header_dates.specs.Dates.{pieces_of, number_in_digits, month_of, year_of, offset_of, named_zone, moment_of}
use Rattle.header_tokens.specs.reading.LexemeReading.{lexemes_in}

-- ---- what the code's pieces and places are

abbrev pub piece_view : Code → DatePiece
piece_view (code.Digits t) = Digits t.now
piece_view (code.Letters t) = Letters t.now
piece_view (code.Signed c t) = Signed c t.now
piece_view (code.Octet c) = Octet c
piece_view code.Other = Other

-- the pieces of the rest of an atom, and of the lexemes of a text after it
unfoldable pub pieces_behind : List ℕ → List ℕ → List DatePiece
pieces_behind atom rest = runs atom ++ pieces_of (lexemes_in alphabet.Mail rest)

-- the pieces from a place on
abbrev pub pieces_at : PartPlace → List DatePiece
pieces_at p = pieces_behind p.atom.now p.rest.now

-- ---- the productions

abbrev pub then_read : {A B : Type 0} → Option (A × List DatePiece) → (A → List DatePiece → Option B) → Option B
then_read None f = None
then_read (Some p) f = f p.0 p.1

abbrev pub with_rest : {A : Type 0} → Option A → List DatePiece → Option (A × List DatePiece)
with_rest None ps = None
with_rest (Some x) ps = Some (x, ps)

-- what follows the day of the week and its comma
abbrev pub behind_day_name : List Spelled → List Spelled
behind_day_name [] = []
behind_day_name (d ∷ []) = d ∷ []
behind_day_name (d ∷ c ∷ ls) = if is_atom d && has_mark 44 c then ls else d ∷ c ∷ ls

abbrev pub digits_in : List DatePiece → Option (List ℕ × List DatePiece)
digits_in (Digits t ∷ ps) = Some (t, ps)
digits_in _ = None

abbrev pub letters_in : List DatePiece → Option (List ℕ × List DatePiece)
letters_in (Letters t ∷ ps) = Some (t, ps)
letters_in _ = None

abbrev pub octet_in : List DatePiece → Option (ℕ × List DatePiece)
octet_in (Octet c ∷ ps) = Some (c, ps)
octet_in _ = None

abbrev pub number_in : ℕ → ℕ → List DatePiece → Option (ℕ × List DatePiece)
number_in low high ps = then_read (digits_in ps) (λ t rest. with_rest (number_in_digits low high t) rest)

abbrev pub month_in : List DatePiece → Option (ℕ × List DatePiece)
month_in ps = then_read (letters_in ps) (λ t rest. with_rest (month_of t) rest)

abbrev pub year_in : List DatePiece → Option (ℕ × List DatePiece)
year_in ps = then_read (digits_in ps) (λ t rest. with_rest (year_of t) rest)

abbrev pub colon_in : List DatePiece → Option (ℕ × List DatePiece)
colon_in ps = then_read (octet_in ps) (λ c rest. if c == 58 then Some (c, rest) else None)

-- seconds, which may be missing
abbrev pub second_behind : Option (ℕ × List DatePiece) → List DatePiece → Option (ℕ × List DatePiece)
second_behind None ps = Some (0, ps)
second_behind (Some q) ps = number_in 2 2 q.1

abbrev pub second_in : List DatePiece → Option (ℕ × List DatePiece)
second_in ps = second_behind (colon_in ps) ps

abbrev pub zone_of : DatePiece → Option ℤ
zone_of (Signed c t) = offset_of c t
zone_of (Letters t) = Some (named_zone t)
zone_of _ = None

abbrev pub zone_in : List DatePiece → Option (ℤ × List DatePiece)
zone_in [] = None
zone_in (p ∷ ps) = with_rest (zone_of p) ps

abbrev pub day_in : List DatePiece → Option (Day × List DatePiece)
day_in ps =
    then_read (number_in 1 2 ps) (λ d r.
    then_read (month_in r) (λ m s.
    then_read (year_in s) (λ y t. Some (record { year = y; month = m; day = d }, t))))

abbrev pub clock_in : List DatePiece → Option (Clock × List DatePiece)
clock_in ps =
    then_read (number_in 2 2 ps) (λ h r.
    then_read (colon_in r) (λ c s.
    then_read (number_in 2 2 s) (λ m t.
    then_read (second_in t) (λ n u. Some (record { hour = h; minute = m; second = n }, u)))))

abbrev pub at_end : List DatePiece → Option Moment → Option Moment
at_end [] m = m
at_end (p ∷ ps) m = None

-- the moment of the date that the pieces are
abbrev pub date_in : List DatePiece → Option Moment
date_in ps =
    then_read (day_in ps) (λ d r.
    then_read (clock_in r) (λ c s.
    then_read (zone_in s) (λ z t. at_end t (moment_of d c z))))
