-- The date of an APPEND as it is written is a date-time of its nearest second.
use Rattle.std.proofs.Common.{◌≡◌, ℕ, zero, suc, ◌+◌, ◌-◌, ◌*◌, ◌/◌, ◌%◌, ◌<◌, ◌≤◌, min, Bool, true, false, ℤ, pos, negsuc, ◌-ℤ◌, [], ◌∷◌, ◌++◌, cond, refl, sym, ap, append_assoc}
use Rattle.std.proofs.Common.{arith, inl}
use Rattle.std.specs.Prelude.{nat_lt}
use Rattle.std.proofs.lemmas.Bool.{ltb-true, ltb-false}
use Rattle.jiff_core.specs.Calendar.{days_in_month, day_count}
use Rattle.jiff_core.proofs.CalendarLemmas.{day_count-day, day_count-next_month, day_count-next_year, day_count-last_of_year, days_in_month_bounds}
use Rattle.jiff_core.proofs.MarchLemmas.{day_count-early}
use Rattle.jiff_core.proofs.SignedLemmas.{signed_arith}
use Rattle.imap_types.specs.Octets.{is_digit}
use Rattle.imap_types.specs.Dates.{Day, next_day, day_at, seconds_from, two_digits, four_digits, month_name, day_text, clock_text, day_text_of, date_text}
use Rattle.imap_types.specs.DateTimes.{days_to, seconds_of, IsDigits, IsDate, IsTime, IsZone, IsDateTime}
use Rattle.imap_values.proofs.DateLemmas.{year_small}
use Rattle.honest_store.specs.WellFormed.{nearest_date}

-- ---- the calendar

year_zero : day_count (pos 0) 1 1 ≡ 3652425
year_zero = day_count-early (pos 0) 9999 1 1 refl (omega arith) (omega arith) (omega arith)

-- the day is n days after the first of January of the year 0, by the first of its month
record IsAfter (n : ℕ) (d : Day) : Type 0 where
  low_month : 1 ≤ d.month
  high_month : d.month ≤ 12
  low_day : 1 ≤ d.day
  high_day : d.day ≤ days_in_month (pos d.year) d.month
  since : 3652425 ≤ day_count (pos d.year) d.month 1
  count : day_count (pos d.year) d.month 1 + d.day ≡ n + 3652426

-- of the last month of a year, which has 31 days, the next year's first follows
after_december : (y m : ℕ) → m ≡ 12 → day_count (pos (y + 1)) 1 1 ≡ day_count (pos y) m 1 + days_in_month (pos y) m
after_december y m e =
    let on = day_count-next_year (pos y) (pos (y + 1)) (omega (arith, signed_arith)) (omega (arith, signed_arith)) in
    let last = day_count-last_of_year (pos y) in
    let first = day_count-day (pos y) 12 1 31 (omega arith) (omega arith) in
    let here : day_count (pos y) m 1 ≡ day_count (pos y) 12 1 = ap (λ (k : ℕ). day_count (pos y) k 1) e in
    let long : days_in_month (pos y) m ≡ 31 = ap (days_in_month (pos y)) e in
    omega (arith, on, last, first, here, long)

some_day : (y m : ℕ) → 1 ≤ days_in_month (pos y) m
some_day y m = let b = days_in_month_bounds (pos y) m in omega (arith, b)

after_next : (n : ℕ) (d : Day) → IsAfter n d → IsAfter (suc n) (next_day d)
after_next n d h = by (nat_lt d.day (days_in_month (pos d.year) d.month)) (nat_lt d.month 12) refl refl
  where
    by : (p q : Bool) → nat_lt d.day (days_in_month (pos d.year) d.month) ≡ p → nat_lt d.month 12 ≡ q
        → IsAfter (suc n) (cond p (record { year = d.year; month = d.month; day = d.day + 1 })
        (cond q (record { year = d.year; month = d.month + 1; day = 1 }) (record { year = d.year + 1; month = 1; day = 1 })))
    by true q e f = record {
      low_month = h.low_month;
      high_month = h.high_month;
      low_day = omega arith;
      high_day = omega (arith, ltb-true _ _ e);
      since = h.since;
      count = omega (arith, h.count);
    }
    by false true e f =
        let last : d.day ≡ days_in_month (pos d.year) d.month = omega (arith, h.high_day, ltb-false _ _ e) in
        let on = day_count-next_month (pos d.year) d.month h.low_month in
        record {
          low_month = omega arith;
          high_month = omega (arith, ltb-true _ _ f);
          low_day = omega arith;
          high_day = some_day d.year (d.month + 1);
          since = omega (arith, on, h.since);
          count = omega (arith, on, last, h.count);
        }
    by false false e f =
        let last : d.day ≡ days_in_month (pos d.year) d.month = omega (arith, h.high_day, ltb-false _ _ e) in
        let on = after_december d.year d.month (omega (arith, h.high_month, ltb-false _ _ f)) in
        record {
          low_month = omega arith;
          high_month = omega arith;
          low_day = omega arith;
          high_day = some_day (d.year + 1) 1;
          since = omega (arith, on, h.since);
          count = omega (arith, on, last, h.count);
        }

after : (n : ℕ) → IsAfter n (day_at n)
unfolding day_at
after zero = record {
  low_month = omega arith;
  high_month = omega arith;
  low_day = omega arith;
  high_day = some_day 0 1;
  since = omega (arith, year_zero);
  count = omega (arith, year_zero);
}
after (suc n) = after_next n (day_at n) (after n)

-- the days up to a day, itself among them
days_upto : (n : ℕ) (d : Day) → IsAfter n d → days_to d.year d.month + d.day ≡ n + 1
days_upto n d h = omega (arith, h.since, h.count, year_zero)

-- ---- digits

digit : (n : ℕ) → n < 10 → is_digit (48 + n) ≡ true
digit n lt = grind arith

two_is : (n : ℕ) → n < 100 → IsDigits 2 n (two_digits n)
two_is n lt = record {
  digits = (digit (n / 10) (omega arith), (digit (n % 10) (omega arith), tt));
  count_is = refl;
  value = omega arith;
}

four_is : (n : ℕ) → n < 10000 → IsDigits 4 n (four_digits n)
four_is n lt = record {
  digits = (digit (n / 100 / 10) (omega arith), (digit (n / 100 % 10) (omega arith), (digit (n % 100 / 10) (omega arith), (digit (n % 100 % 10) (omega arith), tt))));
  count_is = refl;
  value = omega arith;
}

-- ---- the texts

date_is : (d : Day) → 1 ≤ d.month → d.month ≤ 12 → d.day < 100 → d.year < 10000 → IsDate d.year d.month d.day (day_text_of d)
unfolding day_text
date_is d low high day year = record {
  day_text = two_digits d.day;
  month_text = month_name d.month;
  year_text = four_digits d.year;
  whole = refl;
  day_is = inl (two_is d.day day);
  month_is = (low, high, refl);
  year_is = four_is d.year year;
}

time_is : (t : ℕ) → t < 86400 → IsTime t (clock_text t)
unfolding clock_text
time_is t lt = record {
  hours = t / 3600;
  minutes = t / 60 % 60;
  seconds = t % 60;
  hour_text = two_digits (t / 3600);
  minute_text = two_digits (t / 60 % 60);
  second_text = two_digits (t % 60);
  whole = refl;
  hours_are = two_is (t / 3600) (omega arith);
  minutes_are = two_is (t / 60 % 60) (omega arith);
  seconds_are = two_is (t % 60) (omega arith);
  value = omega arith;
}

zone_is : IsZone true 0 (43 ∷ 48 ∷ 48 ∷ 48 ∷ 48 ∷ [])
zone_is = record {
  hours = 0;
  minutes = 0;
  hour_text = 48 ∷ 48 ∷ [];
  minute_text = 48 ∷ 48 ∷ [];
  whole = refl;
  hours_are = two_is 0 (omega arith);
  minutes_are = two_is 0 (omega arith);
  value = refl;
}

seconds_most : (date : ℤ) → seconds_from date ≤ 315569519999
seconds_most (pos n) = omega arith
seconds_most (negsuc n) = omega arith

-- the seconds of a day and a time are those from which both come
seconds_are : (s y m d : ℕ) → s ≤ 315569519999 → days_to y m + d ≡ s / 86400 + 1 → pos s -ℤ pos 62167219200 ≡ seconds_of y m d (s % 86400) true 0
seconds_are s y m d most e =
    let same : s ≡ min (86400 * (days_to y m + d) + s % 86400 - (86400 + 0)) 315569519999 = ap_days (days_to y m + d) e in
    ap (λ (n : ℕ). pos n -ℤ pos 62167219200) same
  where
    ap_days : (k : ℕ) → k ≡ s / 86400 + 1 → s ≡ min (86400 * k + s % 86400 - (86400 + 0)) 315569519999
    ap_days k f = omega (arith, f, most)

pub date_written : (date : ℤ) → IsDateTime (nearest_date date) (date_text date)
unfolding date_text
date_written date =
    let s = seconds_from date in
    let most = seconds_most date in
    let n = s / 86400 in
    let d = day_at n in
    let h = after n in
    let bounds = days_in_month_bounds (pos d.year) d.month in
    let year = year_small n (omega (arith, most)) in
    record {
      year = d.year;
      month = d.month;
      day = d.day;
      time = s % 86400;
      east = true;
      zone = 0;
      date_text = day_text_of d;
      time_text = clock_text (s % 86400);
      zone_text = 43 ∷ 48 ∷ 48 ∷ 48 ∷ 48 ∷ [];
      whole = sym (append_assoc (34 ∷ day_text_of d ++ 32 ∷ clock_text (s % 86400)) (32 ∷ 43 ∷ 48 ∷ 48 ∷ 48 ∷ 48 ∷ []) (34 ∷ []));
      date_is = date_is d h.low_month h.high_month (omega (arith, h.high_day, bounds)) (omega (arith, year));
      time_is = time_is (s % 86400) (omega arith);
      zone_is = zone_is;
      value = seconds_are s d.year d.month d.day most (days_upto n d h);
    }
