-- The days of the calendar, counted on from the first of January of the year 0.
use Rattle.std.proofs.Common.{◌≡◌, ℕ, zero, suc, ◌+◌, ◌<◌, ◌≤◌, Bool, true, false, cond, inl, inr, refl, sym, ap, subst, ◌∙◌, arith}
use Rattle.std.specs.Prelude.{pos, ◌-ℤ◌, nat_lt}
use Rattle.std.proofs.lemmas.Bool.{ltb-true, ltb-false, cond-true, cond-false, cases_lt}
use Rattle.jiff_core.specs.Calendar.{days_in_month, day_count, days_from_civil, IsCivilDate}
use Rattle.jiff_core.specs.Date.{epoch_day}
use Rattle.jiff_core.specs.declared.civil.date.Date.{Date}
use Rattle.jiff_core.proofs.CalendarLemmas.{day_count-day, day_count-next_month, day_count-next_year, day_count-last_of_year, day_count-later_year, day_count-day_of_year}
use Rattle.jiff_core.proofs.CalendarLemmas.{day_count-end, days_in_month_bounds, days_from_civil-day_count, day_count_bounds}
use Rattle.jiff_core.proofs.DateLemmas.{epoch_day_injective}
use Rattle.jiff_core.proofs.MarchLemmas.{day_count-early}
use Rattle.jiff_core.proofs.SignedLemmas.{signed_arith}
use Rattle.imap_types.specs.Dates.{Day, next_day, day_at}
use Rattle.imap_types.specs.DateTimes.{days_to}

-- the calendar has the day, and counts the days before it
record Counted (n : ℕ) (d : Day) : Type 0 where
  first_month : 1 ≤ d.month
  last_month : d.month ≤ 12
  first_day : 1 ≤ d.day
  last_day : d.day ≤ days_in_month (pos d.year) d.month
  count : day_count (pos d.year) d.month d.day ≡ n + 3652425

year_zero : day_count (pos 0) 1 1 ≡ 3652425
year_zero = day_count-early (pos 0) 9999 1 1 refl (omega arith) (omega arith) (omega arith)

next_in_month : (n y m d : ℕ) → 1 ≤ d → day_count (pos y) m d ≡ n + 3652425 → day_count (pos y) m (d + 1) ≡ suc n + 3652425
next_in_month n y m d h e = omega (arith, e, day_count-day (pos y) m d (d + 1) h (omega arith))

next_month : (n y m d : ℕ) → 1 ≤ m → 1 ≤ d → d ≡ days_in_month (pos y) m → day_count (pos y) m d ≡ n + 3652425 → day_count (pos y) (m + 1) 1 ≡ suc n + 3652425
next_month n y m d h k last e = omega (arith, e, last, day_count-day (pos y) m d 1 k (omega arith), day_count-next_month (pos y) m h)

next_year : (n y m d : ℕ) → m ≡ 12 → d ≡ days_in_month (pos y) m → day_count (pos y) m d ≡ n + 3652425 → day_count (pos (y + 1)) 1 1 ≡ suc n + 3652425
next_year n y m d month last e =
    let same : day_count (pos y) m d ≡ day_count (pos y) 12 31 = ap (λ k. day_count (pos y) k d) month
    ∙ ap (λ k. day_count (pos y) 12 k) (last ∙ ap (days_in_month (pos y)) month) in
    let on = day_count-next_year (pos y) (pos (y + 1)) (omega (arith, signed_arith)) (omega (arith, signed_arith)) in
    omega (arith, e, same, day_count-last_of_year (pos y), on)

some_day : (y m : ℕ) → 1 ≤ days_in_month (pos y) m
some_day y m = let b = days_in_month_bounds (pos y) m in omega (arith, b)

abbrev chosen : Bool → Bool → Day → Day
chosen true q d = record { year = d.year; month = d.month; day = d.day + 1 }
chosen false true d = record { year = d.year; month = d.month + 1; day = 1 }
chosen false false d = record { year = d.year + 1; month = 1; day = 1 }

next_is : (p q : Bool) (d : Day) → nat_lt d.day (days_in_month (pos d.year) d.month) ≡ p → nat_lt d.month 12 ≡ q → next_day d ≡ chosen p q d
next_is true q d e f = cond-true (nat_lt d.day (days_in_month (pos d.year) d.month)) (chosen true q d) (cond (nat_lt d.month 12) (chosen false true d) (chosen false false d)) e
next_is false true d e f =
    cond-false (nat_lt d.day (days_in_month (pos d.year) d.month)) (chosen true true d) (cond (nat_lt d.month 12) (chosen false true d) (chosen false false d)) e
    ∙ cond-true (nat_lt d.month 12) (chosen false true d) (chosen false false d) f
next_is false false d e f =
    cond-false (nat_lt d.day (days_in_month (pos d.year) d.month)) (chosen true true d) (cond (nat_lt d.month 12) (chosen false true d) (chosen false false d)) e
    ∙ cond-false (nat_lt d.month 12) (chosen false true d) (chosen false false d) f

counted_chosen : (p q : Bool) (n : ℕ) (d : Day) → nat_lt d.day (days_in_month (pos d.year) d.month) ≡ p → nat_lt d.month 12 ≡ q → Counted n d → Counted (suc n) (chosen p q d)
counted_chosen true q n d e f h = record {
  first_month = h.first_month;
  last_month = h.last_month;
  first_day = omega arith;
  last_day = omega (arith, ltb-true _ _ e);
  count = next_in_month n d.year d.month d.day h.first_day h.count;
}
counted_chosen false true n d e f h = record {
  first_month = omega arith;
  last_month = omega (arith, ltb-true _ _ f);
  first_day = omega arith;
  last_day = some_day d.year (d.month + 1);
  count = next_month n d.year d.month d.day h.first_month h.first_day (omega (arith, h.last_day, ltb-false _ _ e)) h.count;
}
counted_chosen false false n d e f h = record {
  first_month = omega arith;
  last_month = omega arith;
  first_day = omega arith;
  last_day = some_day (d.year + 1) 1;
  count = next_year n d.year d.month d.day (omega (arith, h.last_month, ltb-false _ _ f)) (omega (arith, h.last_day, ltb-false _ _ e)) h.count;
}

counted : (n : ℕ) → Counted n (day_at n)
unfolding day_at
counted zero = record { first_month = omega arith; last_month = omega arith; first_day = omega arith; last_day = some_day 0 1; count = year_zero }
counted (suc n) =
    let d = day_at n in
    let p = nat_lt d.day (days_in_month (pos d.year) d.month) in
    let q = nat_lt d.month 12 in
    subst (Counted (suc n)) (sym (next_is p q d refl refl)) (counted_chosen p q n d refl refl (counted n))

-- ---- the years 0 to 9999

not_later : (n : ℕ) (d : Day) → Counted n d → n ≤ 3652424 → 10000 < d.year → ⊥
not_later n d h le lt =
    let a = day_count-later_year (pos 10000) (pos d.year) (omega (arith, signed_arith)) (omega (arith, signed_arith)) in
    let b = day_count-day_of_year (pos d.year) d.month d.day h.first_day in
    omega (arith, a, b, day_count-end, h.count, h.first_day)

not_that_year : (n : ℕ) (d : Day) → Counted n d → n ≤ 3652424 → d.year ≡ 10000 → ⊥
not_that_year n d h le e =
    let b = day_count-day_of_year (pos d.year) d.month d.day h.first_day in
    let c : day_count (pos d.year) 1 1 ≡ 7304850 = ap (λ y. day_count (pos y) 1 1) e ∙ day_count-end in
    omega (arith, b, c, h.count, h.first_day)

last_year : (n : ℕ) (d : Day) → Counted n d → n ≤ 3652424 → d.year ≤ 9999
last_year n d h le = elim (cases_lt 10000 d.year) [
  | inl lt ↦ absurd (not_later n d h le lt)
  | inr ge ↦ elim (cases_lt d.year 10000) [
    | inl small ↦ omega (arith, small)
    | inr big ↦ absurd (not_that_year n d h le (omega (arith, ge, big)))
  ]
]

-- each of the first 3652425 days from the first of January of the year 0 on is in a year up to 9999
pub year_small : (n : ℕ) → n ≤ 3652424 → (day_at n).year ≤ 9999
year_small n le = last_year n (day_at n) (counted n) le

date_of : (n : ℕ) (d : Day) → Counted n d → n ≤ 3652424 → Date
date_of n d h le =
    let y = last_year n d h le in
    record {
      year = pos d.year;
      month = d.month;
      day = d.day;
      year_in = (omega (arith, signed_arith), omega (arith, signed_arith, y));
      month_in = (h.first_month, h.last_month);
      day_in = (h.first_day, h.last_day);
    }

same_day : (date other : Date) (n : ℕ) → epoch_day date ≡ pos n -ℤ pos 719528 → day_count other.year other.month other.day ≡ n + 3652425 → epoch_day date ≡ epoch_day other
same_day date other n e c =
    let k = days_from_civil-day_count other.year other.month other.day in
    omega (arith, signed_arith, e, c, k)

-- the date with this day number is the day n days after the first
pub is_day_at : (date : Date) (n : ℕ) → n ≤ 3652424 → epoch_day date ≡ pos n -ℤ pos 719528 → (date.year ≡ pos (day_at n).year) × (date.month ≡ (day_at n).month)
    × (date.day ≡ (day_at n).day)
unfolding date_of
is_day_at date n le e =
    let c = counted n in
    epoch_day_injective date (date_of n (day_at n) c le) (same_day date (date_of n (day_at n) c le) n e c.count)

-- ---- the first day of a month

since_zero : (y m : ℕ) → 1 ≤ m → 3652425 ≤ day_count (pos y) m 1
since_zero zero m h = omega (arith, year_zero, day_count-day_of_year (pos 0) m 1 (omega arith))
since_zero (suc y) m h =
    let on = day_count-later_year (pos 0) (pos (suc y)) (omega (arith, signed_arith)) (omega (arith, signed_arith)) in
    omega (arith, year_zero, on, day_count-day_of_year (pos (suc y)) m 1 (omega arith))

-- for the first of a month up to the year 9999, the days from 1970 on are those from the year 0 on, at most 3652424, less 719528
pub first_day : (y m : ℕ) → y ≤ 9999 → 1 ≤ m → m ≤ 12 → (days_from_civil (pos y) m 1 ≡ pos (days_to y m) -ℤ pos 719528) × (days_to y m ≤ 3652424)
first_day y m year low high =
    let civil : IsCivilDate (pos y) m 1 = ((omega (arith, signed_arith), omega (arith, signed_arith, year)), (low, high), (omega arith, some_day y m)) in
    let bound = day_count_bounds (pos y) m 1 civil in
    let since = since_zero y m low in
    let k = days_from_civil-day_count (pos y) m 1 in
    (omega (arith, signed_arith, k, since, year_zero), omega (arith, bound.1, year_zero))
