-- The text of a date spells its seconds.
use Rattle.std.proofs.Common.{◌≡◌, ℕ, zero, suc, ◌+◌, ◌-◌, ◌*◌, ◌/◌, ◌%◌, ◌<◌, ◌≤◌, min, Bool, true, false, cond, ℤ, List, [], ◌∷◌, ◌++◌, codes, inl, refl, sym, ap, ◌∙◌, arith, append_assoc}
use Rattle.std.specs.Prelude.{pos, negsuc, ◌-ℤ◌, nat_lt, ◌==◌}
use Rattle.std.proofs.lemmas.Bool.{ltb-true, ltb-false}
use Rattle.jiff_core.specs.Calendar.{days_in_month, day_count}
use Rattle.jiff_core.proofs.CalendarLemmas.{day_count-day, day_count-next_month, day_count-next_year, day_count-last_of_year, days_in_month_bounds}
use Rattle.jiff_core.proofs.SignedLemmas.{signed_arith}
use Rattle.honest_store.specs.WellFormed.{nearest_date}
use Rattle.imap_types.proofs.EachLemmas.{each_append, each_all, each_to}
use Rattle.imap_types.specs.Octets.{is_digit}
use Rattle.imap_types.specs.Texts.{Each}
use Rattle.imap_types.specs.Dates.{Day, next_day, day_at, seconds_from, two_digits, four_digits, month_name, day_text, clock_text, date_text}
use Rattle.imap_types.specs.DateTimes.{days_to, seconds_of, IsDigits, IsDate, IsTime, IsZone, IsDateTime}
use Rattle.imap_values.proofs.Cuts.{small, digit_small}
use Rattle.imap_values.proofs.DateLemmas.{year_small}
use Rattle.store_responses.proofs.Numerals.{digit_octet}

-- ---- days

-- d is a day of the calendar, n days after the first of January of the year 0
record Reached (n : ℕ) (d : Day) : Type 0 where
  first_month : 1 ≤ d.month
  last_month : d.month ≤ 12
  first_day : 1 ≤ d.day
  last_day : d.day ≤ days_in_month (pos d.year) d.month
  not_before : d.day ≤ n + 1
  count : day_count (pos d.year) d.month 1 + d.day ≡ n + 1 + day_count (pos 0) 1 1

some_day : (y m : ℕ) → 1 ≤ days_in_month (pos y) m
some_day y m = let b = days_in_month_bounds (pos y) m in omega (arith, b)

year_end : (y m d : ℕ) → m ≡ 12 → d ≡ days_in_month (pos y) m → day_count (pos (y + 1)) 1 1 ≡ day_count (pos y) m 1 + d
year_end y m d month last =
    let length : d ≡ 31 = last ∙ ap (days_in_month (pos y)) month in
    let same : day_count (pos y) m 1 ≡ day_count (pos y) 12 1 = ap (λ k. day_count (pos y) k 1) month in
    let on = day_count-next_year (pos y) (pos (y + 1)) (omega (arith, signed_arith)) (omega (arith, signed_arith)) in
    omega (arith, length, same, on, day_count-last_of_year (pos y), day_count-day (pos y) 12 31 1 (omega arith) (omega arith))

reached_next : (n : ℕ) (d : Day) → Reached n d → Reached (suc n) (next_day d)
reached_next n d h = by (nat_lt d.day (days_in_month (pos d.year) d.month)) (nat_lt d.month 12) refl refl
  where
    by : (p q : Bool) → nat_lt d.day (days_in_month (pos d.year) d.month) ≡ p → nat_lt d.month 12 ≡ q
        → Reached (suc n) (cond p (record { year = d.year; month = d.month; day = d.day + 1 })
        (cond q (record { year = d.year; month = d.month + 1; day = 1 }) (record { year = d.year + 1; month = 1; day = 1 })))
    by true q e f = record {
      first_month = h.first_month;
      last_month = h.last_month;
      first_day = omega arith;
      last_day = omega (arith, ltb-true _ _ e);
      not_before = omega (arith, h.not_before);
      count = omega (arith, h.count);
    }
    by false true e f = record {
      first_month = omega arith;
      last_month = omega (arith, ltb-true _ _ f);
      first_day = omega arith;
      last_day = some_day d.year (d.month + 1);
      not_before = omega arith;
      count = omega (arith, h.count, h.last_day, ltb-false _ _ e, day_count-next_month (pos d.year) d.month h.first_month);
    }
    by false false e f = record {
      first_month = omega arith;
      last_month = omega arith;
      first_day = omega arith;
      last_day = some_day (d.year + 1) 1;
      not_before = omega arith;
      count = omega (arith, h.count, year_end d.year d.month d.day (omega (arith, h.last_month, ltb-false _ _ f)) (omega (arith, h.last_day, ltb-false _ _ e)));
    }

reached : (n : ℕ) → Reached n (day_at n)
unfolding day_at
reached zero = record { first_month = omega arith; last_month = omega arith; first_day = omega arith; last_day = some_day 0 1; not_before = omega arith; count = omega arith }
reached (suc n) = reached_next n (day_at n) (reached n)

-- ---- digits

two_spelled : (n : ℕ) → n ≤ 99 → IsDigits 2 n (two_digits n)
two_spelled n le = record {
  digits = (digit_octet (n / 10) (omega arith), (digit_octet (n % 10) (omega arith), tt));
  count_is = refl;
  value = omega arith;
}

four_spelled : (n : ℕ) → n ≤ 9999 → IsDigits 4 n (four_digits n)
four_spelled n le = record {
  digits = (
    digit_octet (n / 100 / 10) (omega arith),
    (
      digit_octet (n / 100 % 10) (omega arith),
      (
        digit_octet (n % 100 / 10) (omega arith),
        (digit_octet (n % 100 % 10) (omega arith), tt),
      ),
    ),
  );
  count_is = refl;
  value = omega arith;
}

-- ---- dates

day_spelled : (n : ℕ) (d : Day) → Reached n d → d.year ≤ 9999 → IsDate d.year d.month d.day (day_text d.year d.month d.day)
unfolding day_text
day_spelled n d h small = record {
  day_text = two_digits d.day;
  month_text = month_name d.month;
  year_text = four_digits d.year;
  whole = refl;
  day_is = inl (two_spelled d.day (omega (arith, h.last_day, days_in_month_bounds (pos d.year) d.month)));
  month_is = (h.first_month, h.last_month, refl);
  year_is = four_spelled d.year small;
}

clock_spelled : (t : ℕ) → t < 86400 → IsTime t (clock_text t)
unfolding clock_text
clock_spelled t lt = record {
  hours = t / 3600;
  minutes = t / 60 % 60;
  seconds = t % 60;
  hour_text = two_digits (t / 3600);
  minute_text = two_digits (t / 60 % 60);
  second_text = two_digits (t % 60);
  whole = refl;
  hours_are = two_spelled (t / 3600) (omega arith);
  minutes_are = two_spelled (t / 60 % 60) (omega arith);
  seconds_are = two_spelled (t % 60) (omega arith);
  value = omega arith;
}

zone_spelled : IsZone true 0 (codes "+0000")
zone_spelled = record {
  hours = 0;
  minutes = 0;
  hour_text = codes "00";
  minute_text = codes "00";
  whole = refl;
  hours_are = record { digits = (refl, (refl, tt)); count_is = refl; value = refl };
  minutes_are = record { digits = (refl, (refl, tt)); count_is = refl; value = refl };
  value = refl;
}

-- ---- seconds

seconds_most : (date : ℤ) → seconds_from date ≤ 315569519999
seconds_most (pos n) = omega arith
seconds_most (negsuc n) = omega arith

counted : (s : ℕ) (d : Day) → Reached (s / 86400) d → s ≤ 315569519999
    → seconds_of d.year d.month d.day (s % 86400) true 0 ≡ pos s -ℤ pos 62167219200
counted s d h le =
    let days : days_to d.year d.month + d.day ≡ s / 86400 + 1 = omega (arith, h.count, h.not_before) in
    let same : min (86400 * (days_to d.year d.month + d.day) + s % 86400 - (86400 + 0)) 315569519999 ≡ s = omega (arith, days) in
    ap (λ (k : ℕ). pos k -ℤ pos 62167219200) same

pub date_spelled : (date : ℤ) → nearest_date date ≡ date → IsDateTime date (date_text date)
unfolding date_text
date_spelled date near =
    let s = seconds_from date in
    let d = day_at (s / 86400) in
    let h = reached (s / 86400) in
    let most : s ≤ 315569519999 = seconds_most date in
    let day = day_text d.year d.month d.day in
    let clock = clock_text (s % 86400) in
    record {
      year = d.year;
      month = d.month;
      day = d.day;
      time = s % 86400;
      east = true;
      zone = 0;
      date_text = day;
      time_text = clock;
      zone_text = codes "+0000";
      whole = sym (append_assoc (34 ∷ day ++ 32 ∷ clock) (codes " +0000") (34 ∷ []));
      date_is = day_spelled (s / 86400) d h (year_small (s / 86400) (omega arith));
      time_is = clock_spelled (s % 86400) (omega arith);
      zone_is = zone_spelled;
      value = sym (counted s d h most ∙ near);
    }

-- ---- octets

cond_low : (b : Bool) (x y : List ℕ) → Each small x → Each small y → Each small (cond b x y)
cond_low true x y h g = h
cond_low false x y h g = g

month_low : (m : ℕ) → Each small (month_name m)
month_low m =
    cond_low (m == 1) (codes "Jan") _ (refl, (refl, (refl, tt))) (cond_low (m == 2) (codes "Feb") _ (refl, (refl, (refl, tt)))
    (cond_low (m == 3) (codes "Mar") _ (refl, (refl, (refl, tt))) (cond_low (m == 4) (codes "Apr") _ (refl, (refl, (refl, tt)))
    (cond_low (m == 5) (codes "May") _ (refl, (refl, (refl, tt))) (cond_low (m == 6) (codes "Jun") _ (refl, (refl, (refl, tt)))
    (cond_low (m == 7) (codes "Jul") _ (refl, (refl, (refl, tt))) (cond_low (m == 8) (codes "Aug") _ (refl, (refl, (refl, tt)))
    (cond_low (m == 9) (codes "Sep") _ (refl, (refl, (refl, tt))) (cond_low (m == 10) (codes "Oct") _ (refl, (refl, (refl, tt)))
    (cond_low (m == 11) (codes "Nov") (codes "Dec") (refl, (refl, (refl, tt))) (refl, (refl, (refl, tt)))))))))))))

two_low : (n : ℕ) → n ≤ 99 → Each small (two_digits n)
two_low n le = each_to is_digit small (two_digits n) digit_small (two_spelled n le).digits

four_low : (n : ℕ) → n ≤ 9999 → Each small (four_digits n)
four_low n le = each_to is_digit small (four_digits n) digit_small (four_spelled n le).digits

day_low : (n : ℕ) (d : Day) → Reached n d → d.year ≤ 9999 → Each small (day_text d.year d.month d.day)
unfolding day_text
day_low n d h le =
    let two : d.day ≤ 99 = omega (arith, h.last_day, days_in_month_bounds (pos d.year) d.month) in
    each_append small (two_digits d.day ++ 45 ∷ month_name d.month) (45 ∷ four_digits d.year)
    (each_append small (two_digits d.day) (45 ∷ month_name d.month) (two_low d.day two) (refl, month_low d.month)) (refl, four_low d.year le)

clock_low : (t : ℕ) → t < 86400 → Each small (clock_text t)
unfolding clock_text
clock_low t lt =
    each_append small (two_digits (t / 3600) ++ 58 ∷ two_digits (t / 60 % 60)) (58 ∷ two_digits (t % 60))
    (each_append small (two_digits (t / 3600)) (58 ∷ two_digits (t / 60 % 60)) (two_low (t / 3600) (omega arith)) (refl, two_low (t / 60 % 60) (omega arith)))
    (refl, two_low (t % 60) (omega arith))

pub date_small : (date : ℤ) → Each small (date_text date)
unfolding date_text
date_small date =
    let s = seconds_from date in
    let d = day_at (s / 86400) in
    let most : s ≤ 315569519999 = seconds_most date in
    let day = day_text d.year d.month d.day in
    let clock = clock_text (s % 86400) in
    each_append small (34 ∷ day ++ 32 ∷ clock) (codes " +0000\"")
    (refl, each_append small day (32 ∷ clock) (day_low (s / 86400) d (reached (s / 86400)) (year_small (s / 86400) (omega arith))) (refl, clock_low (s % 86400) (omega arith)))
    (each_all small (codes " +0000\"") refl)
