-- Dates (RFC 5322 sections 3.3 and 4.3), over the lexemes of a value. No white space is needed between a number and a word.
use Rattle.std.specs.Prelude.{◌≡◌, ℕ, ℤ, pos, negsuc, ◌+◌, ◌-◌, ◌*◌, ◌/◌, ◌%◌, ◌+ℤ◌, ◌-ℤ◌, ◌*ℤ◌, min, Bool}
use Rattle.std.specs.Prelude.{◌&&◌, ◌||◌, ◌==◌, true, nat_le, nat_lt, if◌then◌else◌, List, [], ◌∷◌, ◌++◌, length, Option, Some, None, codes}
use Rattle.jiff_core.specs.Calendar.{days_in_month, days_from_civil}
use Rattle.text_words.specs.Octets.{is_between, is_digit, is_alpha, is_same_text}
use Rattle.header_tokens.specs.declared.token.Kind.{Kind}
use Rattle.header_tokens.specs.declared.token.Kind.TheVariants as kind
use Rattle.header_dates.specs.declared.date.Clock.{Clock}
use Rattle.header_dates.specs.declared.date.Day.{Day}
use Rattle.header_dates.specs.declared.date.Moment.{Moment}
use Rattle.header_dates.specs.declared.moments.TheConstants.{MAX_YEAR}
use Rattle.header_tokens.specs.declared.token.Alphabet.TheVariants as alphabet
use Rattle.header_tokens.specs.Tokens.{Spelled}
use Rattle.header_tokens.specs.Lexemes.{AreLexemes}
use Rattle.header_tokens.specs.Kinds.{has_mark, is_atom, first_octet}
use Rattle.mail_header.specs.RawForms.{raw_form}

-- ---- what dates are made of

-- A run of digits, a run of letters, a sign with the digits directly after it, another octet, or what no date has.
pub data DatePiece : Type 0 where
  Digits : List ℕ → DatePiece
  Letters : List ℕ → DatePiece
  Signed : ℕ → List ℕ → DatePiece
  Octet : ℕ → DatePiece
  Other : DatePiece

-- "+" or "-"
abbrev pub is_plus_or_minus : ℕ → Bool
is_plus_or_minus c = c == 43 || c == 45

abbrev pub single_octet : ℕ → DatePiece
single_octet c =
    if is_digit c then Digits (c ∷ [])
    else if is_alpha c then Letters (c ∷ [])
    else Octet c

-- an octet, and the pieces after it
unfoldable pub joined_piece : ℕ → List DatePiece → List DatePiece
joined_piece c [] = single_octet c ∷ []
joined_piece c (Digits ds ∷ ps) =
    if is_digit c then Digits (c ∷ ds) ∷ ps
    else if is_plus_or_minus c then Signed c ds ∷ ps
    else single_octet c ∷ Digits ds ∷ ps
joined_piece c (Letters ls ∷ ps) = if is_alpha c then Letters (c ∷ ls) ∷ ps else single_octet c ∷ Letters ls ∷ ps
joined_piece c (p ∷ ps) = single_octet c ∷ p ∷ ps

-- the pieces of an atom
unfoldable pub runs : List ℕ → List DatePiece
runs [] = []
runs (c ∷ t) = joined_piece c (runs t)

abbrev pub pieces_in : Kind → List ℕ → List DatePiece
pieces_in kind.Atom t = runs t
pieces_in kind.Mark t = Octet (first_octet t) ∷ []
pieces_in _ t = Other ∷ []

-- the pieces of lexemes
unfoldable pub pieces_of : List Spelled → List DatePiece
pieces_of [] = []
pieces_of (s ∷ ls) = pieces_in s.kind s.text ++ pieces_of ls

-- ---- numbers and names

-- the number that decimal digits spell after those of value
abbrev pub value_from : ℕ → List ℕ → ℕ
value_from value [] = value
value_from value (c ∷ t) = value_from (10 * value + (c - 48)) t

-- the number of a text of low to high digits
abbrev pub number_in_digits : ℕ → ℕ → List ℕ → Option ℕ
number_in_digits low high t = if nat_le low (length t) && nat_le (length t) high then Some (value_from 0 t) else None

abbrev pub month_of : List ℕ → Option ℕ
month_of t =
    if is_same_text t (codes "jan") then Some 1
    else if is_same_text t (codes "feb") then Some 2
    else if is_same_text t (codes "mar") then Some 3
    else if is_same_text t (codes "apr") then Some 4
    else if is_same_text t (codes "may") then Some 5
    else if is_same_text t (codes "jun") then Some 6
    else if is_same_text t (codes "jul") then Some 7
    else if is_same_text t (codes "aug") then Some 8
    else if is_same_text t (codes "sep") then Some 9
    else if is_same_text t (codes "oct") then Some 10
    else if is_same_text t (codes "nov") then Some 11
    else if is_same_text t (codes "dec") then Some 12
    else None

-- two digits up to 49 add 2000, two digits from 50 on and three digits add 1900
abbrev pub whole_year : ℕ → ℕ → ℕ
whole_year digits n =
    if digits == 4 then n
    else if digits == 2 && nat_lt n 50 then 2000 + n
    else 1900 + n

abbrev pub year_of : List ℕ → Option ℕ
year_of t = if nat_le 2 (length t) && nat_le (length t) 4 then Some (whole_year (length t) (value_from 0 t)) else None

-- hhmm in minutes
abbrev pub minutes_of : ℕ → Option ℕ
minutes_of n = if nat_le (n % 100) 59 && nat_le (n / 100) 23 then Some (n / 100 * 60 + n % 100) else None

abbrev pub hours_and_minutes : Option ℕ → Option ℕ
hours_and_minutes None = None
hours_and_minutes (Some n) = minutes_of n

abbrev pub east_of : Option ℕ → Option ℤ
east_of None = None
east_of (Some m) = Some (pos m)

abbrev pub west_of : Option ℕ → Option ℤ
west_of None = None
west_of (Some m) = Some (pos 0 -ℤ pos m)

-- a sign and hhmm, in minutes
abbrev pub offset_of : ℕ → List ℕ → Option ℤ
offset_of sign t = if sign == 43 then east_of (hours_and_minutes (number_in_digits 4 4 t)) else west_of (hours_and_minutes (number_in_digits 4 4 t))

-- the zones of North America by name; other letters are 0
abbrev pub named_zone : List ℕ → ℤ
named_zone t =
    if is_same_text t (codes "est") then negsuc 299
    else if is_same_text t (codes "edt") then negsuc 239
    else if is_same_text t (codes "cst") then negsuc 359
    else if is_same_text t (codes "cdt") then negsuc 299
    else if is_same_text t (codes "mst") then negsuc 419
    else if is_same_text t (codes "mdt") then negsuc 359
    else if is_same_text t (codes "pst") then negsuc 479
    else if is_same_text t (codes "pdt") then negsuc 419
    else pos 0

-- ---- the productions

-- a day's texts
pub record DayTexts (d : Day) : Type 0 where
  pub day_text : List ℕ
  pub month_text : List ℕ
  pub year_text : List ℕ
  pub day_is : number_in_digits 1 2 day_text ≡ Some d.day
  pub month_is : month_of month_text ≡ Some d.month
  pub year_is : year_of year_text ≡ Some d.year

-- date = day month year
pub data IsDay : Day → List DatePiece → Type 0 where
  DayMonthYear : (d : Day) (texts : DayTexts d) → IsDay d (Digits texts.day_text ∷ Letters texts.month_text ∷ Digits texts.year_text ∷ [])

-- the texts of a time of day that has its second
pub record ClockTexts (c : Clock) : Type 0 where
  pub hour_text : List ℕ
  pub minute_text : List ℕ
  pub second_text : List ℕ
  pub hour_is : number_in_digits 2 2 hour_text ≡ Some c.hour
  pub minute_is : number_in_digits 2 2 minute_text ≡ Some c.minute
  pub second_is : number_in_digits 2 2 second_text ≡ Some c.second

-- time-of-day = hour ":" minute [ ":" second ]
pub data IsClock : Clock → List DatePiece → Type 0 where
  HourMinute : (hs ms : List ℕ) (h m : ℕ) → number_in_digits 2 2 hs ≡ Some h → number_in_digits 2 2 ms ≡ Some m
      → IsClock (record { hour = h; minute = m; second = 0 }) (Digits hs ∷ Octet 58 ∷ Digits ms ∷ [])
  HourMinuteSecond : (c : Clock) (texts : ClockTexts c)
      → IsClock c (Digits texts.hour_text ∷ Octet 58 ∷ Digits texts.minute_text ∷ Octet 58 ∷ Digits texts.second_text ∷ [])

-- zone = ( "+" / "-" ) 4DIGIT / obs-zone
pub data IsZone : ℤ → List DatePiece → Type 0 where
  Offset : (sign : ℕ) (t : List ℕ) (z : ℤ) → offset_of sign t ≡ Some z → IsZone z (Signed sign t ∷ [])
  Named : (t : List ℕ) → IsZone (named_zone t) (Letters t ∷ [])

-- date time
pub record IsDateTime (d : Day) (c : Clock) (z : ℤ) (lexemes : List Spelled) : Type 0 where
  pub day : List DatePiece
  pub clock : List DatePiece
  pub zone : List DatePiece
  pub whole : pieces_of lexemes ≡ day ++ (clock ++ zone)
  pub is_day : IsDay d day
  pub is_clock : IsClock c clock
  pub is_zone : IsZone z zone

-- date-time = [ day-of-week "," ] date time; the day of the week is any atom
pub data IsDate (d : Day) (c : Clock) (z : ℤ) : List Spelled → Type 0 where
  Plain : (ls : List Spelled) → IsDateTime d c z ls → IsDate d c z ls
  OfWeek : (name comma : Spelled) (ls : List Spelled) → is_atom name ≡ true → has_mark 44 comma ≡ true → IsDateTime d c z ls → IsDate d c z (name ∷ comma ∷ ls)

-- ---- moments

-- the Gregorian calendar, also before it was in use (ISO 8601)
abbrev pub day_exists : Day → Bool
day_exists d = nat_le d.year MAX_YEAR && is_between 1 12 d.month && is_between 1 (days_in_month (pos d.year) d.month) d.day

-- a leap second is there
abbrev pub clock_exists : Clock → Bool
clock_exists c = nat_le c.hour 23 && nat_le c.minute 59 && nat_le c.second 60

-- seconds since midnight; second 60 is 59
abbrev pub seconds_of_day : Clock → ℕ
seconds_of_day c = c.hour * 3600 + c.minute * 60 + min c.second 59

-- the days since 1970-01-01
abbrev pub day_number : Day → ℤ
day_number d = days_from_civil (pos d.year) d.month d.day

abbrev pub moment_of : Day → Clock → ℤ → Option Moment
moment_of d c zone =
    if day_exists d && clock_exists c
    then Some (record { seconds = day_number d *ℤ pos 86400 +ℤ pos (seconds_of_day c) -ℤ (zone *ℤ pos 60); offset_minutes = zone })
    else None

-- the raw value is a date, of which comments and folding are passed over, and this is its moment
pub record IsMoment (raw : List ℕ) (m : Moment) : Type 0 where
  pub lexemes : List Spelled
  pub are : AreLexemes alphabet.Mail lexemes (raw_form raw)
  pub day : Day
  pub clock : Clock
  pub zone : ℤ
  pub is : IsDate day clock zone lexemes
  pub moment_is : moment_of day clock zone ≡ Some m

-- the moment of a raw value, where it has one
abbrev pub IsDateForm : List ℕ → Option Moment → Type 0
IsDateForm raw None = (m : Moment) → IsMoment raw m → ⊥
IsDateForm raw (Some m) = IsMoment raw m
