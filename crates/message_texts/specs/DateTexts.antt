-- The date of a message as it is written (RFC 5322 section 3.3).
use Rattle.std.specs.Prelude.{◌≡◌, ◌==◌, ℕ, suc, ◌+◌, ◌/◌, ◌%◌, ℤ, pos, negsuc, if◌then◌else◌, List, [], ◌∷◌, ◌++◌, codes}
use Rattle.jiff_core.specs.Calendar.{weekday_number}
use Rattle.header_dates.specs.declared.date.Clock.{Clock}
use Rattle.header_dates.specs.declared.date.Day.{Day}
use Rattle.header_dates.specs.declared.date.Moment.{Moment}
use Rattle.header_dates.specs.Dates.{day_number}
use Rattle.zoned_moments.specs.Zoned.{IsLocalTime}
use Rattle.message_lines.specs.Folding.{FieldPiece, plain_piece}

-- Monday is 0
abbrev pub day_name : ℕ → List ℕ
day_name n =
    if n == 0 then codes "Mon" else if n == 1 then codes "Tue" else if n == 2 then codes "Wed" else if n == 3 then codes "Thu"
    else if n == 4 then codes "Fri" else if n == 5 then codes "Sat" else codes "Sun"

abbrev pub month_name : ℕ → List ℕ
month_name m =
    if m == 1 then codes "Jan" else if m == 2 then codes "Feb" else if m == 3 then codes "Mar" else if m == 4 then codes "Apr"
    else if m == 5 then codes "May" else if m == 6 then codes "Jun" else if m == 7 then codes "Jul" else if m == 8 then codes "Aug"
    else if m == 9 then codes "Sep" else if m == 10 then codes "Oct" else if m == 11 then codes "Nov" else codes "Dec"

abbrev pub two_digits : ℕ → List ℕ
two_digits n = (48 + n / 10) ∷ (48 + n % 10) ∷ []

abbrev pub four_digits : ℕ → List ℕ
four_digits n = two_digits (n / 100) ++ two_digits (n % 100)

-- dd Mon yyyy
unfoldable pub day_text : Day → List ℕ
day_text d = two_digits d.day ++ 32 ∷ [] ++ month_name d.month ++ 32 ∷ [] ++ four_digits d.year

-- hh:mm:ss
unfoldable pub clock_text : Clock → List ℕ
clock_text c = two_digits c.hour ++ 58 ∷ [] ++ two_digits c.minute ++ 58 ∷ [] ++ two_digits c.second

-- zone = ( "+" / "-" ) 4DIGIT, of minutes east of UTC
unfoldable pub zone_text : ℤ → List ℕ
zone_text (pos n) = 43 ∷ (two_digits (n / 60) ++ two_digits (n % 60))
zone_text (negsuc n) = 45 ∷ (two_digits (suc n / 60) ++ two_digits (suc n % 60))

-- date-time = day-name "," date time-of-day zone, with one space in each gap
unfoldable pub date_text : Day → Clock → ℤ → List ℕ
date_text d c zone = day_name (weekday_number (day_number d)) ++ 44 ∷ 32 ∷ [] ++ day_text d ++ 32 ∷ [] ++ clock_text c ++ 32 ∷ [] ++ zone_text zone

-- the date that a moment is written as, with the day and the time in its zone
pub record IsDateOf (m : Moment) (text : List ℕ) : Type 0 where
  pub day : Day
  pub clock : Clock
  pub is_local : IsLocalTime m day clock
  pub text_is : text ≡ date_text day clock m.offset_minutes

abbrev pub IsDateText : Moment → List FieldPiece → Type 0
IsDateText m pieces = (text : List ℕ) × IsDateOf m text × (pieces ≡ plain_piece text ∷ [])
