-- The date of a message is printed.
use Rattle.std.proofs.Common.{◌≡◌, ℕ, suc, ◌+◌, ◌/◌, ◌%◌, ◌<◌, ◌≤◌, Bool, true, false, cond, List, [], ◌∷◌, ◌++◌, codes, ℤ, pos, negsuc, ◌≤ℤ◌, refl, sym, subst, arith}
use Rattle.std.specs.Prelude.{◌==◌}
use Rattle.std.specs.List.{list_all}
use Rattle.jiff_core.specs.Calendar.{weekday_number}
use Rattle.jiff_core.proofs.SignedLemmas.{signed_arith}
use Rattle.text_words.specs.Cuts.{Each}
use Rattle.text_words.specs.Octets.{is_between}
use Rattle.text_words.proofs.CutLemmas.{each_append, list_all_each}
use Rattle.header_dates.specs.declared.date.Clock.{Clock}
use Rattle.header_dates.specs.declared.date.Day.{Day}
use Rattle.header_dates.specs.declared.date.Moment.{Moment}
use Rattle.header_dates.specs.Dates.{day_number}
use Rattle.message_texts.specs.DateTexts.{day_name, month_name, two_digits, four_digits, day_text, clock_text, zone_text, date_text, IsDateOf}
use Rattle.message_laws.proofs.OneDate.{DayRange, ClockRange, local_day, local_clock}

abbrev is_shown : ℕ → Bool
is_shown c = is_between 32 126 c

printed : (t : List ℕ) → list_all is_shown t ≡ true → Each is_shown t
printed t e = list_all_each is_shown t e

digit_printed : (n : ℕ) → n < 10 → is_shown (48 + n) ≡ true
digit_printed n lt = grind arith

two_printed : (n : ℕ) → n < 100 → Each is_shown (two_digits n)
two_printed n lt = (digit_printed (n / 10) (omega arith), (digit_printed (n % 10) (omega arith), tt))

days : (a b c d e f : Bool) → list_all is_shown (cond a (codes "Mon") (cond b (codes "Tue") (cond c (codes "Wed") (cond d (codes "Thu") (cond e (codes "Fri") (cond f (codes "Sat") (codes "Sun"))))))) ≡ true
days true b c d e f = refl
days false true c d e f = refl
days false false true d e f = refl
days false false false true e f = refl
days false false false false true f = refl
days false false false false false true = refl
days false false false false false false = refl

day_name_printed : (n : ℕ) → Each is_shown (day_name n)
day_name_printed n = printed (day_name n) (days (n == 0) (n == 1) (n == 2) (n == 3) (n == 4) (n == 5))

months : (a b c d e f g h i j k : Bool) → list_all is_shown (cond a (codes "Jan") (cond b (codes "Feb") (cond c (codes "Mar") (cond d (codes "Apr") (cond e (codes "May") (cond f (codes "Jun") (cond g (codes "Jul") (cond h (codes "Aug") (cond i (codes "Sep") (cond j (codes "Oct") (cond k (codes "Nov") (codes "Dec")))))))))))) ≡ true
months true b c d e f g h i j k = refl
months false true c d e f g h i j k = refl
months false false true d e f g h i j k = refl
months false false false true e f g h i j k = refl
months false false false false true f g h i j k = refl
months false false false false false true g h i j k = refl
months false false false false false false true h i j k = refl
months false false false false false false false true i j k = refl
months false false false false false false false false true j k = refl
months false false false false false false false false false true k = refl
months false false false false false false false false false false true = refl
months false false false false false false false false false false false = refl

month_name_printed : (m : ℕ) → Each is_shown (month_name m)
month_name_printed m = printed (month_name m) (months (m == 1) (m == 2) (m == 3) (m == 4) (m == 5) (m == 6) (m == 7) (m == 8) (m == 9) (m == 10) (m == 11))

-- one text after another
both : (s t : List ℕ) → Each is_shown s → Each is_shown t → Each is_shown (s ++ t)
both s t a b = each_append is_shown s t a b

space : Each is_shown (32 ∷ [])
space = (refl, tt)

colon : Each is_shown (58 ∷ [])
colon = (refl, tt)

day_printed : (d : Day) → DayRange d → Each is_shown (day_text d)
unfolding day_text
day_printed d r =
    both (two_digits d.day ++ 32 ∷ [] ++ month_name d.month ++ 32 ∷ []) (four_digits d.year)
    (both (two_digits d.day ++ 32 ∷ [] ++ month_name d.month) (32 ∷ [])
    (both (two_digits d.day ++ 32 ∷ []) (month_name d.month) (both (two_digits d.day) (32 ∷ []) (two_printed d.day (omega (arith, r.day))) space) (month_name_printed d.month)) space)
    (both (two_digits (d.year / 100)) (two_digits (d.year % 100)) (two_printed (d.year / 100) (omega (arith, r.year))) (two_printed (d.year % 100) (omega arith)))

clock_printed : (c : Clock) → ClockRange c → Each is_shown (clock_text c)
unfolding clock_text
clock_printed c r =
    both (two_digits c.hour ++ 58 ∷ [] ++ two_digits c.minute ++ 58 ∷ []) (two_digits c.second)
    (both (two_digits c.hour ++ 58 ∷ [] ++ two_digits c.minute) (58 ∷ [])
    (both (two_digits c.hour ++ 58 ∷ []) (two_digits c.minute) (both (two_digits c.hour) (58 ∷ []) (two_printed c.hour (omega (arith, r.hour))) colon) (two_printed c.minute (omega (arith, r.minute)))) colon)
    (two_printed c.second (omega (arith, r.second)))

zone_printed : (z : ℤ) → negsuc 1438 ≤ℤ z → z ≤ℤ pos 1439 → Each is_shown (zone_text z)
unfolding zone_text
zone_printed (pos n) low high =
    let small : n ≤ 1439 = omega (arith, signed_arith) in
    (refl, both (two_digits (n / 60)) (two_digits (n % 60)) (two_printed (n / 60) (omega arith)) (two_printed (n % 60) (omega arith)))
zone_printed (negsuc n) low high =
    let small : suc n ≤ 1439 = omega (arith, signed_arith) in
    (refl, both (two_digits (suc n / 60)) (two_digits (suc n % 60)) (two_printed (suc n / 60) (omega arith)) (two_printed (suc n % 60) (omega arith)))

-- a moment's date, where its zone is less than a day off
pub date_printed : (m : Moment) (t : List ℕ) → negsuc 1438 ≤ℤ m.offset_minutes → m.offset_minutes ≤ℤ pos 1439 → IsDateOf m t → Each (is_between 32 126) t
unfolding date_text
date_printed m t low high is =
    let name = day_name (weekday_number (day_number is.day)) in
    let x2 = name ++ 44 ∷ 32 ∷ [] in
    let x3 = x2 ++ day_text is.day in
    let x4 = x3 ++ 32 ∷ [] in
    let x5 = x4 ++ clock_text is.clock in
    let x6 = x5 ++ 32 ∷ [] in
    let comma : Each is_shown (44 ∷ 32 ∷ []) = (refl, (refl, tt)) in
    let p2 = both name (44 ∷ 32 ∷ []) (day_name_printed (weekday_number (day_number is.day))) comma in
    let p3 = both x2 (day_text is.day) p2 (day_printed is.day (local_day m is.day is.clock is.is_local)) in
    let p4 = both x3 (32 ∷ []) p3 space in
    let p5 = both x4 (clock_text is.clock) p4 (clock_printed is.clock (local_clock m is.day is.clock is.is_local)) in
    let p6 = both x5 (32 ∷ []) p5 space in
    subst (λ (u : List ℕ). Each is_shown u) (sym is.text_is) (both x6 (zone_text m.offset_minutes) p6 (zone_printed m.offset_minutes low high))
