-- Moments in their zones, by the Gregorian calendar, also before it was in use (ISO 8601).
use Rattle.std.specs.Prelude.{◌≡◌, ◌≤◌, ℤ, pos, negsuc, ◌+ℤ◌, ◌*ℤ◌, ◌≤ℤ◌, ◌<ℤ◌, Some}
use Rattle.std.specs.Int.{int_min, int_max}
use Rattle.header_dates.specs.declared.date.Clock.{Clock}
use Rattle.header_dates.specs.declared.date.Day.{Day}
use Rattle.header_dates.specs.declared.date.Moment.{Moment}
use Rattle.header_dates.specs.Dates.{moment_of}

-- the seconds on the clocks of its zone, from the first of January of the year 0 on
abbrev pub local_seconds : Moment → ℤ
local_seconds m = m.seconds +ℤ m.offset_minutes *ℤ pos 60 +ℤ pos 62167219200

-- it is in the years 0 to 9999 of its zone, which is less than a day off
pub record IsZoned (m : Moment) : Type 0 where
  pub from_year_zero : pos 0 ≤ℤ local_seconds m
  pub to_year_9999 : local_seconds m <ℤ pos 315569520000
  pub west : negsuc 1438 ≤ℤ m.offset_minutes
  pub east : m.offset_minutes ≤ℤ pos 1439

-- The day and the time that clocks in its zone show then. No second is 60.
pub record IsLocalTime (m : Moment) (day : Day) (clock : Clock) : Type 0 where
  pub is_second : clock.second ≤ 59
  pub is_moment : moment_of day clock m.offset_minutes ≡ Some m

-- seconds since 1970-01-01T00:00:00Z, kept within the years 0 to 9999: outside them the nearest second of them
abbrev pub kept_second : ℤ → ℤ
kept_second seconds = int_max (negsuc 62167219199) (int_min seconds (pos 253402300799))

-- that second in UTC
abbrev pub utc_moment : ℤ → Moment
utc_moment seconds = record { seconds = kept_second seconds; offset_minutes = pos 0 }
