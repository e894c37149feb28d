-- Moments, their days and their times.
use Rattle.std.proofs.Common.{◌≡◌, ◌∙◌, ℕ, zero, suc, ◌+◌, ◌*◌, ◌/◌, ◌%◌, ◌<◌, ◌≤◌, Bool, true, false, cond, ◌&&◌, ◌==◌, nat_le, refl, sym, ap, subst, arith, ℤ, pos, negsuc, ◌+ℤ◌}
use Rattle.std.proofs.Common.{◌-ℤ◌, ◌*ℤ◌, ◌≤ℤ◌, ◌<ℤ◌, List, Option, Some, None}
use Rattle.std.specs.Prelude.{IfSome, codes, unsigned_abs}
use Rattle.std.proofs.lemmas.Bool.{cond-true, leb-true, and_parts, and_from}
use Rattle.jiff_core.specs.Calendar.{days_in_month, day_count}
use Rattle.jiff_core.specs.Date.{epoch_day}
use Rattle.jiff_core.specs.declared.civil.date.Date.{Date}
use Rattle.jiff_core.proofs.CalendarLemmas.{day_count-lt_year, day_count-later_year, day_count-day_of_year, days_from_civil-day_count}
use Rattle.jiff_core.proofs.DateLemmas.{civil, epoch_day_range, epoch_day_injective}
use Rattle.jiff_core.proofs.MarchLemmas.{day_count-early}
use Rattle.jiff_core.proofs.SignedLemmas.{signed_arith}
use Rattle.header_dates.specs.declared.date.Clock.{Clock}
use Rattle.header_dates.specs.declared.date.Day.{Day}
use Rattle.header_dates.specs.declared.date.Moment.{Moment}
use Rattle.text_words.specs.Octets.{is_between, is_same_text}
use Rattle.header_tokens.specs.Tokens.{Spelled}
use Rattle.header_dates.specs.Dates as dates
use Rattle.field_values.specs.MomentText.{IsMomentText, IsShown, local_text}

year_zero : day_count (pos 0) 1 1 ≡ 3652425
year_zero = day_count-early (pos 0) 9999 1 1 refl (omega arith) (omega arith) (omega arith)

not_negative : (date : Date) (n : ℕ) (y : ℤ) → y ≡ date.year → epoch_day date +ℤ pos 719528 ≡ pos n → pos 0 ≤ℤ y
not_negative date n (pos y) e count = omega (arith, signed_arith)
not_negative date n (negsuc y) e count =
    let early : date.year <ℤ pos 0 = subst (λ z. z <ℤ pos 0) e (omega (arith, signed_arith)) in
    let before = day_count-lt_year date.year date.month date.day (pos 0) 1 1 (civil date) (omega arith) early in
    absurd (omega (arith, signed_arith, before, year_zero, count, days_from_civil-day_count date.year date.month date.day))

-- a date that isn't before the year 0 has no negative year
pub from_year_zero : (date : Date) (n : ℕ) → epoch_day date +ℤ pos 719528 ≡ pos n → pos 0 ≤ℤ date.year
from_year_zero date n count = not_negative date n date.year refl count

-- the moment of a day and a time in its zone
pub is_moment : (d : Day) (c : Clock) (m : Moment) → dates.day_exists d ≡ true → dates.clock_exists c ≡ true
    → dates.day_number d *ℤ pos 86400 +ℤ pos (dates.seconds_of_day c) -ℤ (m.offset_minutes *ℤ pos 60) ≡ m.seconds → dates.moment_of d c m.offset_minutes ≡ Some m
is_moment d c m day clock e =
    let made : ℤ → Option Moment = λ s. Some (record { seconds = s; offset_minutes = m.offset_minutes }) in
    let p = and_from (dates.day_exists d) (dates.clock_exists c) day clock in
    cond-true (dates.day_exists d && dates.clock_exists c) (made (dates.day_number d *ℤ pos 86400 +ℤ pos (dates.seconds_of_day c) -ℤ (m.offset_minutes *ℤ pos 60))) None p
    ∙ ap made e

-- ---- the moments of dates are shown

-- the days of the years 0 to 9999
record IsDayNumber (z : ℤ) : Type 0 where
  low : pos 0 ≤ℤ (z +ℤ pos 719528)
  high : z ≤ℤ pos 2932896

later_year : (y : ℕ) → 3652425 ≤ day_count (pos y) 1 1
later_year zero = omega (arith, year_zero)
later_year (suc y) =
    let later = day_count-later_year (pos 0) (pos (suc y)) (omega (arith, signed_arith)) (omega (arith, signed_arith)) in
    omega (arith, year_zero, later)

-- what a day that exists is
record Exists (d : Day) : Type 0 where
  year : d.year ≤ 9999
  first_month : 1 ≤ d.month
  last_month : d.month ≤ 12
  first_day : 1 ≤ d.day
  last_day : d.day ≤ days_in_month (pos d.year) d.month

exists : (d : Day) → dates.day_exists d ≡ true → Exists d
exists d p =
    let whole = and_parts (nat_le d.year 9999 && is_between 1 12 d.month) (is_between 1 (days_in_month (pos d.year) d.month) d.day) p in
    let front = and_parts (nat_le d.year 9999) (is_between 1 12 d.month) whole.0 in
    let month = and_parts (nat_le 1 d.month) (nat_le d.month 12) front.1 in
    let day = and_parts (nat_le 1 d.day) (nat_le d.day (days_in_month (pos d.year) d.month)) whole.1 in
    record {
      year = leb-true _ _ front.0;
      first_month = leb-true _ _ month.0;
      last_month = leb-true _ _ month.1;
      first_day = leb-true _ _ day.0;
      last_day = leb-true _ _ day.1;
    }

date_of : (d : Day) → Exists d → Date
date_of d h = record {
  year = pos d.year;
  month = d.month;
  day = d.day;
  year_in = (omega (arith, signed_arith), omega (arith, signed_arith, h.year));
  month_in = (h.first_month, h.last_month);
  day_in = (h.first_day, h.last_day);
}

last_number : (d : Day) → Exists d → dates.day_number d ≤ℤ pos 2932896
unfolding date_of
last_number d h = (epoch_day_range (date_of d h)).1

day_is_number : (d : Day) → Exists d → IsDayNumber (dates.day_number d)
day_is_number d h =
    let count = days_from_civil-day_count (pos d.year) d.month d.day in
    let of_year = day_count-day_of_year (pos d.year) d.month d.day h.first_day in
    record { low = omega (arith, signed_arith, count, of_year, later_year d.year, h.first_day); high = last_number d h }

shown_local : (n zone : ℤ) (s : ℕ) (m : Moment) → IsDayNumber n → s < 86400 → m.seconds ≡ n *ℤ pos 86400 +ℤ pos s -ℤ (zone *ℤ pos 60) → m.offset_minutes ≡ zone
    → negsuc 1438 ≤ℤ zone → zone ≤ℤ pos 1439 → IsShown m
shown_local n zone s m h lt e f west east = record {
  from_year_zero = omega (arith, signed_arith, h.low, e, f);
  to_year_9999 = omega (arith, signed_arith, h.high, lt, e, f);
  west = subst (λ z. negsuc 1438 ≤ℤ z) (sym f) west;
  east = subst (λ z. z ≤ℤ pos 1439) (sym f) east;
}

-- a time that exists is in its day
clock_small : (c : Clock) → dates.clock_exists c ≡ true → dates.seconds_of_day c < 86400
clock_small c p =
    let whole = and_parts (nat_le c.hour 23 && nat_le c.minute 59) (nat_le c.second 60) p in
    let front = and_parts (nat_le c.hour 23) (nat_le c.minute 59) whole.0 in
    omega (arith, leb-true _ _ front.0, leb-true _ _ front.1)

record InZone (z : ℤ) : Type 0 where
  west : negsuc 1438 ≤ℤ z
  east : z ≤ℤ pos 1439

abbrev made : Day → Clock → ℤ → Moment
made d c z = record { seconds = dates.day_number d *ℤ pos 86400 +ℤ pos (dates.seconds_of_day c) -ℤ (z *ℤ pos 60); offset_minutes = z }

made_shown : (b : Bool) (d : Day) (c : Clock) (z : ℤ) → b ≡ (dates.day_exists d && dates.clock_exists c) → InZone z → IfSome (cond b (Some (made d c z)) None) IsShown
made_shown false d c z e h = tt
made_shown true d c z e h =
    let both = and_parts (dates.day_exists d) (dates.clock_exists c) (sym e) in
    shown_local (dates.day_number d) z (dates.seconds_of_day c) (made d c z) (day_is_number d (exists d both.0)) (clock_small c both.1) refl refl h.west h.east

-- ---- zones are less than a day off

some_minutes : (b : Bool) (n : ℕ) → b ≡ (nat_le (n % 100) 59 && nat_le (n / 100) 23) → IfSome (cond b (Some (n / 100 * 60 + n % 100)) None) (λ m. m < 1440)
some_minutes false n e = tt
some_minutes true n e =
    let both = and_parts (nat_le (n % 100) 59) (nat_le (n / 100) 23) (sym e) in
    omega (arith, leb-true _ _ both.0, leb-true _ _ both.1)

minutes_small : (o : Option ℕ) → IfSome (dates.hours_and_minutes o) (λ m. m < 1440)
minutes_small None = tt
minutes_small (Some n) = some_minutes (nat_le (n % 100) 59 && nat_le (n / 100) 23) n refl

record SomeInZone (o : Option ℤ) : Type 0 where
  holds : IfSome o InZone

abbrev near : (z : ℤ) → negsuc 1438 ≤ℤ z → z ≤ℤ pos 1439 → SomeInZone (Some z)
near z west east = record { holds = record { west = west; east = east } }

east_small : (o : Option ℕ) → IfSome o (λ m. m < 1440) → SomeInZone (dates.east_of o)
east_small None h = record { holds = tt }
east_small (Some m) h = near (pos m) (omega (arith, signed_arith)) (omega (arith, signed_arith))

west_small : (o : Option ℕ) → IfSome o (λ m. m < 1440) → SomeInZone (dates.west_of o)
west_small None h = record { holds = tt }
west_small (Some m) h = near (pos 0 -ℤ pos m) (omega (arith, signed_arith)) (omega (arith, signed_arith))

either : (b : Bool) (x y : Option ℤ) → SomeInZone x → SomeInZone y → SomeInZone (cond b x y)
either true x y h k = h
either false x y h k = k

hours_west : (n : ℕ) → n ≤ 479 → InZone (negsuc n)
hours_west n h = record { west = omega (arith, signed_arith); east = omega (arith, signed_arith) }

either_zone : (b : Bool) (x y : ℤ) → InZone x → InZone y → InZone (cond b x y)
either_zone true x y h k = h
either_zone false x y h k = k

named_small : (t : List ℕ) → InZone (dates.named_zone t)
named_small t =
    either_zone (is_same_text t (codes "est")) _ _ (hours_west 299 (omega arith))
    (either_zone (is_same_text t (codes "edt")) _ _ (hours_west 239 (omega arith))
    (either_zone (is_same_text t (codes "cst")) _ _ (hours_west 359 (omega arith))
    (either_zone (is_same_text t (codes "cdt")) _ _ (hours_west 299 (omega arith))
    (either_zone (is_same_text t (codes "mst")) _ _ (hours_west 419 (omega arith))
    (either_zone (is_same_text t (codes "mdt")) _ _ (hours_west 359 (omega arith))
    (either_zone (is_same_text t (codes "pst")) _ _ (hours_west 479 (omega arith))
    (either_zone (is_same_text t (codes "pdt")) _ _ (hours_west 419 (omega arith))
    (record { west = omega (arith, signed_arith); east = omega (arith, signed_arith) }))))))))

offset_small : (sign : ℕ) (t : List ℕ) → SomeInZone (dates.offset_of sign t)
offset_small sign t =
    either (sign == 43) _ _ (east_small (dates.hours_and_minutes (dates.number_in_digits 4 4 t)) (minutes_small (dates.number_in_digits 4 4 t)))
    (west_small (dates.hours_and_minutes (dates.number_in_digits 4 4 t)) (minutes_small (dates.number_in_digits 4 4 t)))

zone_small : (z : ℤ) (ps : List dates.DatePiece) → dates.IsZone z ps → InZone z
zone_small _ _ (dates.Offset sign t z e) = subst (λ (o : Option ℤ). IfSome o InZone) e (offset_small sign t).holds
zone_small _ _ (dates.Named t) = named_small t

-- ---- the moment of a date

date_zone : (d : Day) (c : Clock) (z : ℤ) (ls : List Spelled) → dates.IsDate d c z ls → InZone z
date_zone d c z _ (dates.Plain ls h) = zone_small z h.zone h.is_zone
date_zone d c z _ (dates.OfWeek name comma ls a m h) = zone_small z h.zone h.is_zone

moment_shown : (raw : List ℕ) (m : Moment) → dates.IsMoment raw m → IsShown m
moment_shown raw m h =
    subst (λ (o : Option Moment). IfSome o IsShown) h.moment_is
    (made_shown (dates.day_exists h.day && dates.clock_exists h.clock) h.day h.clock h.zone refl (date_zone h.day h.clock h.zone h.lexemes h.is))

form_shown : (raw : List ℕ) (r : Option Moment) → dates.IsDateForm raw r → IfSome r IsShown
form_shown raw None h = tt
form_shown raw (Some m) h = moment_shown raw m h

-- the moment of a date field is shown
pub shown : (raw : List ℕ) (r : Option Moment) (m : Moment) → r ≡ Some m → dates.IsDateForm raw r → IsShown m
shown raw r m e form = subst (λ o. IfSome o IsShown) e (form_shown raw r form)

-- ---- a moment has one text

record IsMoment (d : Day) (c : Clock) (m : Moment) : Type 0 where
  day : dates.day_exists d ≡ true
  clock : dates.clock_exists c ≡ true
  seconds : (made d c m.offset_minutes).seconds ≡ m.seconds

made_is : (b : Bool) (d : Day) (c : Clock) (m : Moment) → b ≡ (dates.day_exists d && dates.clock_exists c) → cond b (Some (made d c m.offset_minutes)) None ≡ Some m
    → IsMoment d c m
made_is false d c m e h = absurd (cc)
made_is true d c m e h =
    let both = and_parts (dates.day_exists d) (dates.clock_exists c) (sym e) in
    let same : made d c m.offset_minutes ≡ m = cc in
    record { day = both.0; clock = both.1; seconds = ap (λ n. n.seconds) same }

moment_is : (d : Day) (c : Clock) (m : Moment) → dates.moment_of d c m.offset_minutes ≡ Some m → IsMoment d c m
moment_is d c m h = made_is (dates.day_exists d && dates.clock_exists c) d c m refl h

-- seconds have one day and one time of it
same_number : (x y w z : ℤ) (s t : ℕ) → s < 86400 → t < 86400 → x *ℤ pos 86400 +ℤ pos s -ℤ w ≡ z → y *ℤ pos 86400 +ℤ pos t -ℤ w ≡ z → x ≡ y
same_number x y w z s t h k e f = omega (arith, signed_arith, e, f)

same_second : (x y w z : ℤ) (s t : ℕ) → s < 86400 → t < 86400 → x *ℤ pos 86400 +ℤ pos s -ℤ w ≡ z → y *ℤ pos 86400 +ℤ pos t -ℤ w ≡ z → s ≡ t
same_second x y w z s t h k e f = omega (arith, signed_arith, e, f)

same_day : (d e : Day) → Exists d → Exists e → dates.day_number d ≡ dates.day_number e → d ≡ e
unfolding date_of
same_day d e h k same =
    let parts = epoch_day_injective (date_of d h) (date_of e k) same in
    let year : d.year ≡ e.year = ap unsigned_abs parts.0 in
    let of_parts : ℕ → ℕ → ℕ → Day = λ y m n. record { year = y; month = m; day = n } in
    ap (λ y. of_parts y d.month d.day) year ∙ ap (λ m. of_parts e.year m d.day) parts.1 ∙ ap (λ n. of_parts e.year e.month n) parts.2

same_clock : (c d : Clock) → dates.clock_exists c ≡ true → dates.clock_exists d ≡ true → c.second ≤ 59 → d.second ≤ 59 → dates.seconds_of_day c ≡ dates.seconds_of_day d → c ≡ d
same_clock c d p q low high same =
    let whole = and_parts (nat_le c.hour 23 && nat_le c.minute 59) (nat_le c.second 60) p in
    let front = and_parts (nat_le c.hour 23) (nat_le c.minute 59) whole.0 in
    let whole' = and_parts (nat_le d.hour 23 && nat_le d.minute 59) (nat_le d.second 60) q in
    let front' = and_parts (nat_le d.hour 23) (nat_le d.minute 59) whole'.0 in
    let minute : c.minute ≤ 59 = leb-true _ _ front.1 in
    let minute' : d.minute ≤ 59 = leb-true _ _ front'.1 in
    let hours : c.hour ≡ d.hour = omega (arith, same) in
    let minutes : c.minute ≡ d.minute = omega (arith, same, hours) in
    let seconds : c.second ≡ d.second = omega (arith, same, hours, minutes) in
    let of_parts : ℕ → ℕ → ℕ → Clock = λ h m s. record { hour = h; minute = m; second = s } in
    ap (λ h. of_parts h c.minute c.second) hours ∙ ap (λ m. of_parts d.hour m c.second) minutes ∙ ap (λ s. of_parts d.hour d.minute s) seconds

-- a moment has at most one text
pub one_moment_text : (m : Moment) (s t : List ℕ) → IsMomentText m s → IsMomentText m t → s ≡ t
one_moment_text m s t p q =
    let f = moment_is p.day p.clock m p.is_moment in
    let g = moment_is q.day q.clock m q.is_moment in
    let w = m.offset_minutes *ℤ pos 60 in
    let n = same_number (dates.day_number p.day) (dates.day_number q.day) w m.seconds (dates.seconds_of_day p.clock) (dates.seconds_of_day q.clock) (clock_small p.clock f.clock)
    (clock_small q.clock g.clock) f.seconds g.seconds in
    let k = same_second (dates.day_number p.day) (dates.day_number q.day) w m.seconds (dates.seconds_of_day p.clock) (dates.seconds_of_day q.clock) (clock_small p.clock f.clock)
    (clock_small q.clock g.clock) f.seconds g.seconds in
    let day = same_day p.day q.day (exists p.day f.day) (exists q.day g.day) n in
    let clock = same_clock p.clock q.clock f.clock g.clock p.is_second q.is_second k in
    p.text_is ∙ ap (λ d. local_text d p.clock m.offset_minutes) day ∙ ap (λ c. local_text q.day c m.offset_minutes) clock ∙ sym q.text_is
