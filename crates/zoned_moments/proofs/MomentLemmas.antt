-- Moments, their days and their times.
use Rattle.std.proofs.Common.{◌≡◌, ◌∙◌, ℕ, true, ◌&&◌, refl, ap, subst, arith, ℤ, pos, negsuc, ◌+ℤ◌}
use Rattle.std.proofs.Common.{◌-ℤ◌, ◌*ℤ◌, ◌≤ℤ◌, ◌<ℤ◌, Option, Some, None}
use Rattle.std.proofs.lemmas.Bool.{cond-true, and_from}
use Rattle.jiff_core.specs.Calendar.{day_count}
use Rattle.jiff_core.specs.Date.{epoch_day}
use Rattle.jiff_core.specs.declared.civil.date.Date.{Date}
use Rattle.jiff_core.proofs.CalendarLemmas.{day_count-lt_year, days_from_civil-day_count}
use Rattle.jiff_core.proofs.DateLemmas.{civil}
use Rattle.jiff_core.proofs.MarchLemmas.{day_count-early}
use Rattle.jiff_core.proofs.SignedLemmas.{signed_arith}
use Rattle.header_dates.specs.declared.date.Clock.{Clock}
use Rattle.header_dates.specs.declared.date.Day.{Day}
use Rattle.header_dates.specs.declared.date.Moment.{Moment}
use Rattle.header_dates.specs.Dates as dates

pub year_zero : day_count (pos 0) 1 1 ≡ 3652425
year_zero = day_count-early (pos 0) 9999 1 1 refl (omega arith) (omega arith) (omega arith)

not_negative : (date : Date) (n : ℕ) (y : ℤ) → y ≡ date.year → epoch_day date +ℤ pos 719528 ≡ pos n → pos 0 ≤ℤ y
not_negative date n (pos y) e count = omega (arith, signed_arith)
not_negative date n (negsuc y) e count =
    let early : date.year <ℤ pos 0 = subst (λ z. z <ℤ pos 0) e (omega (arith, signed_arith)) in
    let before = day_count-lt_year date.year date.month date.day (pos 0) 1 1 (civil date) (omega arith) early in
    absurd (omega (arith, signed_arith, before, year_zero, count, days_from_civil-day_count date.year date.month date.day))

-- a date that isn't before the year 0 has no negative year
pub from_year_zero : (date : Date) (n : ℕ) → epoch_day date +ℤ pos 719528 ≡ pos n → pos 0 ≤ℤ date.year
from_year_zero date n count = not_negative date n date.year refl count

-- the moment of a day and a time in its zone
pub is_moment : (d : Day) (c : Clock) (m : Moment) → dates.day_exists d ≡ true → dates.clock_exists c ≡ true
    → dates.day_number d *ℤ pos 86400 +ℤ pos (dates.seconds_of_day c) -ℤ (m.offset_minutes *ℤ pos 60) ≡ m.seconds → dates.moment_of d c m.offset_minutes ≡ Some m
is_moment d c m day clock e =
    let made : ℤ → Option Moment = λ s. Some (record { seconds = s; offset_minutes = m.offset_minutes }) in
    let p = and_from (dates.day_exists d) (dates.clock_exists c) day clock in
    cond-true (dates.day_exists d && dates.clock_exists c) (made (dates.day_number d *ℤ pos 86400 +ℤ pos (dates.seconds_of_day c) -ℤ (m.offset_minutes *ℤ pos 60))) None p
    ∙ ap made e
