-- The date of an APPEND (RFC 9051 section 9, date-time), by the seconds since 1970-01-01T00:00:00Z.
use Rattle.std.specs.Prelude.{ℕ, zero, suc, ◌+◌, ◌-◌, ◌/◌, ◌%◌, min, ℤ, pos, negsuc, nat_lt, ◌==◌, if◌then◌else◌, List, [], ◌∷◌, ◌++◌, codes}
use Rattle.jiff_core.specs.Calendar.{days_in_month}

-- ---- days of the Gregorian calendar (ISO 8601)

pub record Day : Type 0 where
  pub year : ℕ
  pub month : ℕ
  pub day : ℕ

abbrev pub next_day : Day → Day
next_day d =
    if nat_lt d.day (days_in_month (pos d.year) d.month) then record { year = d.year; month = d.month; day = d.day + 1 }
    else if nat_lt d.month 12 then record { year = d.year; month = d.month + 1; day = 1 }
    else record { year = d.year + 1; month = 1; day = 1 }

-- n days after the first of January of the year 0
unfoldable pub day_at : ℕ → Day
day_at zero = record { year = 0; month = 1; day = 1 }
day_at (suc n) = next_day (day_at n)

-- the seconds from the year 0 on, kept within the years 0 to 9999
abbrev pub seconds_from : ℤ → ℕ
seconds_from (pos n) = min (n + 62167219200) 315569519999
seconds_from (negsuc n) = 62167219200 - (n + 1)

-- ---- texts

abbrev pub two_digits : ℕ → List ℕ
two_digits n = (48 + n / 10) ∷ (48 + n % 10) ∷ []

abbrev pub four_digits : ℕ → List ℕ
four_digits n = two_digits (n / 100) ++ two_digits (n % 100)

abbrev pub month_name : ℕ → List ℕ
month_name m =
    if m == 1 then codes "Jan" else if m == 2 then codes "Feb" else if m == 3 then codes "Mar" else if m == 4 then codes "Apr"
    else if m == 5 then codes "May" else if m == 6 then codes "Jun" else if m == 7 then codes "Jul" else if m == 8 then codes "Aug"
    else if m == 9 then codes "Sep" else if m == 10 then codes "Oct" else if m == 11 then codes "Nov" else codes "Dec"

-- dd-Mon-yyyy
unfoldable pub day_text : ℕ → ℕ → ℕ → List ℕ
day_text year month day = two_digits day ++ 45 ∷ month_name month ++ 45 ∷ four_digits year

-- hh:mm:ss, of the seconds since midnight
unfoldable pub clock_text : ℕ → List ℕ
clock_text s = two_digits (s / 3600) ++ 58 ∷ two_digits (s / 60 % 60) ++ 58 ∷ two_digits (s % 60)

abbrev pub day_text_of : Day → List ℕ
day_text_of d = day_text d.year d.month d.day

-- date-time = DQUOTE date-day-fixed "-" date-month "-" date-year SP time SP zone DQUOTE
unfoldable pub date_text : ℤ → List ℕ
date_text seconds =
    34 ∷ day_text_of (day_at (seconds_from seconds / 86400)) ++ 32 ∷ clock_text (seconds_from seconds % 86400) ++ codes " +0000\""
