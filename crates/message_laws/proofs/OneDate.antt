-- A moment has one day and one time in its zone.
use Rattle.std.proofs.Common.{◌≡◌, ℕ, ◌<◌, ◌≤◌, Bool, true, false, ◌&&◌, ℤ, pos, ◌+ℤ◌, ◌-ℤ◌, ◌*ℤ◌, cond, Option, Some, None, refl, sym, ap, ◌∙◌, arith, inl, inr}
use Rattle.std.proofs.lemmas.Bool.{and_parts, leb-true, cases_order}
use Rattle.std.specs.Prelude.{nat_le}
use Rattle.text_words.specs.Octets.{is_between}
use Rattle.jiff_core.specs.Calendar.{day_count, days_in_month, IsCivilDate}
use Rattle.jiff_core.proofs.CalendarLemmas.{days_from_civil-day_count, day_count-lt_year, day_count-lt_month, day_count-day, days_in_month_bounds}
use Rattle.jiff_core.proofs.SignedLemmas.{signed_arith}
use Rattle.header_dates.specs.declared.date.Clock.{Clock}
use Rattle.header_dates.specs.declared.date.Day.{Day}
use Rattle.header_dates.specs.declared.date.Moment.{Moment}
use Rattle.header_dates.specs.Dates.{day_exists, clock_exists, seconds_of_day, day_number, moment_of}
use Rattle.zoned_moments.specs.Zoned.{IsLocalTime}

-- ---- a moment's day and time exist

-- the day and the time that a moment is of
record IsMomentOf (d : Day) (c : Clock) (m : Moment) : Type 0 where
  day : day_exists d ≡ true
  clock : clock_exists c ≡ true
  seconds : day_number d *ℤ pos 86400 +ℤ pos (seconds_of_day c) -ℤ (m.offset_minutes *ℤ pos 60) ≡ m.seconds

moment_is : (d : Day) (c : Clock) (m : Moment) → moment_of d c m.offset_minutes ≡ Some m → IsMomentOf d c m
moment_is d c m e = by (day_exists d && clock_exists c) refl e
  where
    by : (b : Bool) → (day_exists d && clock_exists c) ≡ b
        → cond b (Some (record { seconds = day_number d *ℤ pos 86400 +ℤ pos (seconds_of_day c) -ℤ (m.offset_minutes *ℤ pos 60); offset_minutes = m.offset_minutes })) None ≡ Some m
        → IsMomentOf d c m
    by true p f =
        let both = and_parts (day_exists d) (clock_exists c) p in
        record { day = both.0; clock = both.1; seconds = ap (λ (o : Option Moment). of o) f }
      where
        of : Option Moment → ℤ
        of None = pos 0
        of (Some n) = n.seconds
    by false p f = absurd cc

-- the calendar has a day that exists
day_civil : (d : Day) → day_exists d ≡ true → IsCivilDate (pos d.year) d.month d.day
day_civil d e =
    let last = days_in_month (pos d.year) d.month in
    let p = and_parts (nat_le d.year 9999 && is_between 1 12 d.month) (is_between 1 last d.day) e in
    let q = and_parts (nat_le d.year 9999) (is_between 1 12 d.month) p.0 in
    let m = and_parts (nat_le 1 d.month) (nat_le d.month 12) q.1 in
    let n = and_parts (nat_le 1 d.day) (nat_le d.day last) p.1 in
    let year : d.year ≤ 9999 = leb-true d.year 9999 q.0 in
    ((omega (arith, signed_arith), omega (arith, signed_arith)), (leb-true 1 d.month m.0, leb-true d.month 12 m.1), (leb-true 1 d.day n.0, leb-true d.day last n.1))

-- ---- days

abbrev count_of : Day → ℕ
count_of d = day_count (pos d.year) d.month d.day

same_count : (a b : Day) → day_number a ≡ day_number b → count_of a ≡ count_of b
same_count a b e = omega (arith, signed_arith, days_from_civil-day_count (pos a.year) a.month a.day, days_from_civil-day_count (pos b.year) b.month b.day, e)

not_before : (a b : Day) → day_exists a ≡ true → day_exists b ≡ true → count_of a ≡ count_of b → a.year < b.year → ⊥
not_before a b ea eb e lt =
    let ca = day_civil a ea in
    let cb = day_civil b eb in
    let less = day_count-lt_year (pos a.year) a.month a.day (pos b.year) b.month b.day ca cb.2.0 (omega (arith, signed_arith)) in
    absurd (omega arith)

not_in_month_before : (a b : Day) → day_exists a ≡ true → day_exists b ≡ true → count_of a ≡ count_of b → a.year ≡ b.year → a.month < b.month → ⊥
not_in_month_before a b ea eb e y lt =
    let ca = day_civil a ea in
    let cb = day_civil b eb in
    let less = day_count-lt_month (pos a.year) a.month a.day b.month b.day ca cb.2.0 lt in
    let same : day_count (pos b.year) b.month b.day ≡ day_count (pos a.year) b.month b.day = ap (λ (n : ℕ). day_count (pos n) b.month b.day) (sym y) in
    absurd (omega arith)

day_of : ℕ → ℕ → ℕ → Day
day_of y m d = record { year = y; month = m; day = d }

same_parts : (a b : Day) → a.year ≡ b.year → a.month ≡ b.month → a.day ≡ b.day → a ≡ b
unfolding day_of
same_parts a b y m d =
    ap (λ (n : ℕ). day_of n a.month a.day) y ∙ ap (λ (n : ℕ). day_of b.year n a.day) m ∙ ap (λ (n : ℕ). day_of b.year b.month n) d

one_day_of_month : (a b : Day) → day_exists a ≡ true → day_exists b ≡ true → count_of a ≡ count_of b → a.year ≡ b.year → a.month ≡ b.month → a ≡ b
one_day_of_month a b ea eb e y m =
    let ca = day_civil a ea in
    let cb = day_civil b eb in
    let along : count_of b ≡ day_count (pos a.year) a.month b.day =
    ap (λ (n : ℕ). day_count (pos n) b.month b.day) (sym y) ∙ ap (λ (n : ℕ). day_count (pos a.year) n b.day) (sym m) in
    let step = day_count-day (pos a.year) a.month a.day b.day ca.2.0 cb.2.0 in
    same_parts a b y m (omega arith)

one_day_of_year : (a b : Day) → day_exists a ≡ true → day_exists b ≡ true → count_of a ≡ count_of b → a.year ≡ b.year → a ≡ b
one_day_of_year a b ea eb e y = elim (cases_order a.month b.month) [
  | inl m ↦ one_day_of_month a b ea eb e y m
  | inr (inl lt) ↦ absurd (not_in_month_before a b ea eb e y lt)
  | inr (inr gt) ↦ absurd (not_in_month_before b a eb ea (sym e) (sym y) gt)
]

-- a number of days is that of one day
one_day : (a b : Day) → day_exists a ≡ true → day_exists b ≡ true → day_number a ≡ day_number b → a ≡ b
one_day a b ea eb e =
    let same = same_count a b e in
    elim (cases_order a.year b.year) [
      | inl y ↦ one_day_of_year a b ea eb same y
      | inr (inl lt) ↦ absurd (not_before a b ea eb same lt)
      | inr (inr gt) ↦ absurd (not_before b a eb ea (sym same) gt)
    ]

-- ---- times

-- a time that exists, without a leap second
record IsTime (c : Clock) : Type 0 where
  hour : c.hour ≤ 23
  minute : c.minute ≤ 59
  second : c.second ≤ 59

time_is : (c : Clock) → clock_exists c ≡ true → c.second ≤ 59 → IsTime c
time_is c e s =
    let p = and_parts (nat_le c.hour 23 && nat_le c.minute 59) (nat_le c.second 60) e in
    let q = and_parts (nat_le c.hour 23) (nat_le c.minute 59) p.0 in
    record { hour = leb-true c.hour 23 q.0; minute = leb-true c.minute 59 q.1; second = s }

clock_of : ℕ → ℕ → ℕ → Clock
clock_of h m s = record { hour = h; minute = m; second = s }

one_time : (a b : Clock) → IsTime a → IsTime b → seconds_of_day a ≡ seconds_of_day b → a ≡ b
unfolding clock_of
one_time a b ta tb e =
    let h : a.hour ≡ b.hour = omega arith in
    let m : a.minute ≡ b.minute = omega arith in
    let s : a.second ≡ b.second = omega arith in
    ap (λ (n : ℕ). clock_of n a.minute a.second) h ∙ ap (λ (n : ℕ). clock_of b.hour n a.second) m ∙ ap (λ (n : ℕ). clock_of b.hour b.minute n) s

time_small : (c : Clock) → IsTime c → seconds_of_day c < 86400
time_small c t = omega arith

-- ---- both

-- whole days, and seconds of less than a day
record SameTotal (x y : ℤ) (s t : ℕ) : Type 0 where
  days : x ≡ y
  seconds : s ≡ t

same_total : (x y zone total : ℤ) (s t : ℕ) → s < 86400 → t < 86400 → x *ℤ pos 86400 +ℤ pos s -ℤ zone ≡ total → y *ℤ pos 86400 +ℤ pos t -ℤ zone ≡ total → SameTotal x y s t
same_total x y zone total s t ls lt e f = record { days = omega (arith, signed_arith); seconds = omega (arith, signed_arith) }

pub record SameLocalTime (d e : Day) (c b : Clock) : Type 0 where
  pub day : d ≡ e
  pub clock : c ≡ b

pub one_local_time : (m : Moment) (d e : Day) (c b : Clock) → IsLocalTime m d c → IsLocalTime m e b → SameLocalTime d e c b
one_local_time m d e c b k l =
    let p = moment_is d c m k.is_moment in
    let q = moment_is e b m l.is_moment in
    let t = time_is c p.clock k.is_second in
    let u = time_is b q.clock l.is_second in
    let same = same_total (day_number d) (day_number e) (m.offset_minutes *ℤ pos 60) m.seconds (seconds_of_day c) (seconds_of_day b) (time_small c t) (time_small b u) p.seconds q.seconds in
    record { day = one_day d e p.day q.day same.days; clock = one_time c b t u same.seconds }

-- ---- how large they are

pub record DayRange (d : Day) : Type 0 where
  pub year : d.year ≤ 9999
  pub month_from : 1 ≤ d.month
  pub month_to : d.month ≤ 12
  pub day : d.day ≤ 31

pub record ClockRange (c : Clock) : Type 0 where
  pub hour : c.hour ≤ 23
  pub minute : c.minute ≤ 59
  pub second : c.second ≤ 59

pub local_day : (m : Moment) (d : Day) (c : Clock) → IsLocalTime m d c → DayRange d
local_day moment d c k =
    let e = (moment_is d c moment k.is_moment).day in
    let last = days_in_month (pos d.year) d.month in
    let p = and_parts (nat_le d.year 9999 && is_between 1 12 d.month) (is_between 1 last d.day) e in
    let q = and_parts (nat_le d.year 9999) (is_between 1 12 d.month) p.0 in
    let m = and_parts (nat_le 1 d.month) (nat_le d.month 12) q.1 in
    let n = and_parts (nat_le 1 d.day) (nat_le d.day last) p.1 in
    let bound = (days_in_month_bounds (pos d.year) d.month).0 in
    record {
      year = leb-true d.year 9999 q.0;
      month_from = leb-true 1 d.month m.0;
      month_to = leb-true d.month 12 m.1;
      day = omega (arith, leb-true d.day last n.1, bound);
    }

pub local_clock : (m : Moment) (d : Day) (c : Clock) → IsLocalTime m d c → ClockRange c
local_clock m d c k =
    let t = time_is c (moment_is d c m k.is_moment).clock k.is_second in
    record { hour = t.hour; minute = t.minute; second = t.second }
