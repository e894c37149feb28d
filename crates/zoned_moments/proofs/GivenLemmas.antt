-- Moments of days and times that are given: they are in the years 0 to 9999.
use Rattle.std.proofs.Common.{◌≡◌, ℕ, ◌<◌, ◌≤◌, Bool, true, false, ◌&&◌, cond, refl, subst, arith, rules, ℤ, pos, negsuc, ◌+ℤ◌, ◌-ℤ◌, ◌*ℤ◌, ◌≤ℤ◌, ◌<ℤ◌, Option, Some, None}
use Rattle.std.specs.Prelude.{nat_le}
use Rattle.std.proofs.lemmas.Bool.{and_parts, leb-true}
use Rattle.jiff_core.specs.Calendar.{day_count, days_from_civil, days_in_month, days_in_year, IsCivilDate}
use Rattle.jiff_core.proofs.CalendarLemmas.{day_count-lt_year, day_count-last_of_year, day_count-next_year, day_count_bounds, days_from_civil-day_count}
use Rattle.jiff_core.proofs.SignedLemmas.{signed_arith}
use Rattle.header_dates.specs.declared.date.Clock.{Clock}
use Rattle.header_dates.specs.declared.date.Day.{Day}
use Rattle.header_dates.specs.declared.date.Moment.{Moment}
use Rattle.header_dates.specs.Dates as dates
use Rattle.zoned_moments.specs.Zoned.{IsZoned}
use Rattle.zoned_moments.proofs.MomentLemmas.{year_zero}

between : (low high n : ℕ) → nat_le low n && nat_le n high ≡ true → (low ≤ n) × (n ≤ high)
between low high n e =
    let p = and_parts (nat_le low n) (nat_le n high) e in
    (leb-true low n p.0, leb-true n high p.1)

-- the days of the years 0 to 9999
days_within : (y m d : ℕ) → IsCivilDate (pos y) m d → 1 ≤ d → (3652425 ≤ day_count (pos y) m d) × (day_count (pos y) m d ≤ 7304849)
days_within y m d is some =
    let last : IsCivilDate (negsuc 0) 12 31 = search rules in
    let before = day_count-lt_year (negsuc 0) 12 31 (pos y) m d last some (omega (arith, signed_arith)) in
    let end = day_count-last_of_year (negsuc 0) in
    let next = day_count-next_year (negsuc 0) (pos 0) (search rules) (search rules) in
    (omega (arith, before, end, next, year_zero), (day_count_bounds (pos y) m d is).1)

-- the seconds of a day that exists
seconds_within : (c : Clock) → dates.clock_exists c ≡ true → dates.seconds_of_day c < 86400
seconds_within c e =
    let p = and_parts (nat_le c.hour 23 && nat_le c.minute 59) (nat_le c.second 60) e in
    let q = and_parts (nat_le c.hour 23) (nat_le c.minute 59) p.0 in
    omega (arith, leb-true c.hour 23 q.0, leb-true c.minute 59 q.1)

zoned_at : (d : Day) (c : Clock) (zone : ℤ) → negsuc 1438 ≤ℤ zone → zone ≤ℤ pos 1439 → dates.day_exists d ≡ true → dates.clock_exists c ≡ true
    → IsZoned (record { seconds = dates.day_number d *ℤ pos 86400 +ℤ pos (dates.seconds_of_day c) -ℤ (zone *ℤ pos 60); offset_minutes = zone })
zoned_at d c zone west east day clock =
    let p = and_parts (nat_le d.year 9999 && (nat_le 1 d.month && nat_le d.month 12)) (nat_le 1 d.day && nat_le d.day (days_in_month (pos d.year) d.month)) day in
    let q = and_parts (nat_le d.year 9999) ((nat_le 1 d.month && nat_le d.month 12)) p.0 in
    let year = leb-true d.year 9999 q.0 in
    let month = between 1 12 d.month q.1 in
    let day_in = between 1 (days_in_month (pos d.year) d.month) d.day p.1 in
    let is : IsCivilDate (pos d.year) d.month d.day = ((omega (arith, signed_arith), omega (arith, signed_arith)), month, day_in) in
    let within = days_within d.year d.month d.day is day_in.0 in
    let count = days_from_civil-day_count (pos d.year) d.month d.day in
    let small = seconds_within c clock in
    record {
      from_year_zero = omega (arith, signed_arith, within.0, count);
      to_year_9999 = omega (arith, signed_arith, within.1, count, small);
      west = west;
      east = east;
    }

pub zoned : (d : Day) (c : Clock) (zone : ℤ) (m : Moment) → negsuc 1438 ≤ℤ zone → zone ≤ℤ pos 1439 → dates.moment_of d c zone ≡ Some m → IsZoned m
zoned d c zone m west east e = by (dates.day_exists d) refl (dates.clock_exists c) refl e
  where
    at : Moment
    at = record { seconds = dates.day_number d *ℤ pos 86400 +ℤ pos (dates.seconds_of_day c) -ℤ (zone *ℤ pos 60); offset_minutes = zone }

    by : (x : Bool) → dates.day_exists d ≡ x → (y : Bool) → dates.clock_exists c ≡ y → cond (x && y) (Some at) None ≡ Some m → IsZoned m
    by true day true clock is = let same : at ≡ m = cc in subst (λ (n : Moment). IsZoned n) same (zoned_at d c zone west east day clock)
    by true day false clock is = absurd (cc)
    by false day y clock is = absurd (cc)
