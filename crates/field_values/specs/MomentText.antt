-- The text of a moment in its zone (RFC 3339 section 5.6; RFC 8620 section 1.4).
use Rattle.std.specs.Prelude.{◌≡◌, ◌≤◌, ℕ, zero, suc, ◌+◌, ◌/◌, ◌%◌, ℤ, pos, negsuc, ◌+ℤ◌, ◌*ℤ◌, ◌≤ℤ◌, ◌<ℤ◌, List, [], ◌∷◌, ◌++◌, Some}
use Rattle.header_dates.specs.declared.date.Clock.{Clock}
use Rattle.header_dates.specs.declared.date.Day.{Day}
use Rattle.header_dates.specs.declared.date.Moment.{Moment}
use Rattle.header_dates.specs.Dates.{moment_of}

abbrev pub two_digits : ℕ → List ℕ
two_digits n = (48 + n / 10) ∷ (48 + n % 10) ∷ []

-- full-date = 4DIGIT "-" 2DIGIT "-" 2DIGIT
unfoldable pub day_text : Day → List ℕ
day_text d = two_digits (d.year / 100) ++ two_digits (d.year % 100) ++ 45 ∷ two_digits d.month ++ 45 ∷ two_digits d.day

-- partial-time = 2DIGIT ":" 2DIGIT ":" 2DIGIT, without a fraction
unfoldable pub clock_text : Clock → List ℕ
clock_text c = two_digits c.hour ++ 58 ∷ two_digits c.minute ++ 58 ∷ two_digits c.second

-- 2DIGIT ":" 2DIGIT, of minutes
abbrev pub hours_text : ℕ → List ℕ
hours_text minutes = two_digits (minutes / 60) ++ 58 ∷ two_digits (minutes % 60)

-- time-offset = "Z" / ("+" / "-") 2DIGIT ":" 2DIGIT, of minutes east of UTC
unfoldable pub zone_text : ℤ → List ℕ
zone_text (pos zero) = 90 ∷ []
zone_text (pos (suc n)) = 43 ∷ hours_text (suc n)
zone_text (negsuc n) = 45 ∷ hours_text (suc n)

-- date-time = full-date "T" full-time
unfoldable pub local_text : Day → Clock → ℤ → List ℕ
local_text day clock zone = day_text day ++ 84 ∷ clock_text clock ++ zone_text zone

-- The text has a day and a time of that day, in the zone, whose moment this is. No second is 60.
pub record IsMomentText (m : Moment) (text : List ℕ) : Type 0 where
  pub day : Day
  pub clock : Clock
  pub is_second : clock.second ≤ 59
  pub is_moment : moment_of day clock m.offset_minutes ≡ Some m
  pub text_is : text ≡ local_text day clock m.offset_minutes

-- the seconds on the clocks of its zone, from the first of January of the year 0 on
abbrev pub local_seconds : Moment → ℤ
local_seconds m = m.seconds +ℤ m.offset_minutes *ℤ pos 60 +ℤ pos 62167219200

-- the calendar's years 0 to 9999 have the moment, and its zone is less than a day off
pub record IsShown (m : Moment) : Type 0 where
  pub from_year_zero : pos 0 ≤ℤ local_seconds m
  pub to_year_9999 : local_seconds m <ℤ pos 315569520000
  pub west : negsuc 1438 ≤ℤ m.offset_minutes
  pub east : m.offset_minutes ≤ℤ pos 1439
