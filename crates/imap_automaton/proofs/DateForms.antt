-- The octets of a spelled date.
use Rattle.std.proofs.Common.{◌≡◌, ◌⊎◌, ℕ, ◌+◌, ◌-◌, ◌*◌, Bool, true, false, ◌||◌, ℤ, List, [], ◌∷◌, ◌++◌, cond, refl, sym, ap, ◌∙◌, append_assoc, arith, inl, inr}
use Rattle.std.specs.Prelude.{◌==◌}
use Rattle.std.proofs.lemmas.Bool.{eqb-true, or_cases}
use Rattle.imap_types.specs.Octets.{is_digit}
use Rattle.imap_types.specs.Texts.{Each}
use Rattle.imap_types.specs.DateTimes.{seconds_of, IsDigits, IsFixedDay, IsMonth, IsDateTime}

-- the number of two digits, a space counting as none
abbrev pub two : ℕ → ℕ → ℕ
two a b = 10 * (a - 48) + (b - 48)

abbrev pub four : ℕ → ℕ → ℕ → ℕ → ℕ
four a b c d = 100 * two a b + two c d

pub record TwoDigits (n : ℕ) (t : List ℕ) : Type 0 where
  pub first : ℕ
  pub second : ℕ
  pub whole : t ≡ first ∷ second ∷ []
  pub digits : Each is_digit (first ∷ second ∷ [])
  pub value : n ≡ two first second

two_digits : (n : ℕ) (t : List ℕ) → IsDigits 2 n t → TwoDigits n t
two_digits n (a ∷ b ∷ []) h = record { first = a; second = b; whole = refl; digits = h.digits; value = omega (arith, h.value) }
two_digits n _ h = absurd (omega (arith, h.count_is))

-- two digits spell the number that they make
pub digits_two : (a b : ℕ) → Each is_digit (a ∷ b ∷ []) → IsDigits 2 (two a b) (a ∷ b ∷ [])
digits_two a b h = record { digits = h; count_is = refl; value = omega arith }

pub record FourDigits (n : ℕ) (t : List ℕ) : Type 0 where
  pub first : ℕ
  pub second : ℕ
  pub third : ℕ
  pub fourth : ℕ
  pub whole : t ≡ first ∷ second ∷ third ∷ fourth ∷ []
  pub digits : Each is_digit (first ∷ second ∷ third ∷ fourth ∷ [])
  pub value : n ≡ four first second third fourth

four_digits : (n : ℕ) (t : List ℕ) → IsDigits 4 n t → FourDigits n t
four_digits n (a ∷ b ∷ c ∷ d ∷ []) h = record { first = a; second = b; third = c; fourth = d; whole = refl; digits = h.digits; value = omega (arith, h.value) }
four_digits n _ h = absurd (omega (arith, h.count_is))

-- four digits spell the number that they make
pub digits_four : (a b c d : ℕ) → Each is_digit (a ∷ b ∷ c ∷ d ∷ []) → IsDigits 4 (four a b c d) (a ∷ b ∷ c ∷ d ∷ [])
digits_four a b c d h = record { digits = h; count_is = refl; value = omega arith }

-- the day of a month, the first octet a space or a digit
abbrev pub starts_day : ℕ → Bool
starts_day c = c == 32 || is_digit c

pub record DayDigits (n : ℕ) (t : List ℕ) : Type 0 where
  pub first : ℕ
  pub second : ℕ
  pub whole : t ≡ first ∷ second ∷ []
  pub starts : starts_day first ≡ true
  pub digit : is_digit second ≡ true
  pub value : n ≡ two first second

-- a digit may stand first in a day
pub digit_starts : (c : ℕ) → is_digit c ≡ true → starts_day c ≡ true
digit_starts c e = grind arith

one_digit : (n : ℕ) (t digit : List ℕ) → t ≡ 32 ∷ digit → IsDigits 1 n digit → DayDigits n t
one_digit n t (b ∷ []) e h = record { first = 32; second = b; whole = e; starts = refl; digit = h.digits.0; value = omega (arith, h.value) }
one_digit n t _ e h = absurd (omega (arith, h.count_is))

day_digits : (n : ℕ) (t : List ℕ) → IsFixedDay n t → DayDigits n t
day_digits n t (inl h) = let d = two_digits n t h in record {
  first = d.first;
  second = d.second;
  whole = d.whole;
  starts = digit_starts d.first d.digits.0;
  digit = d.digits.1.0;
  value = d.value;
}
day_digits n t (inr h) = one_digit n t h.0 h.1 h.2

-- a space or a digit, and then a digit, spell the day that they make
pub digits_day : (a b : ℕ) → starts_day a ≡ true → is_digit b ≡ true → IsFixedDay (two a b) (a ∷ b ∷ [])
digits_day a b s d = elim (or_cases (a == 32) (is_digit a) s) [
  | inl e ↦ (let space : a ≡ 32 = eqb-true a 32 e in inr (b ∷ [], ap (λ (c : ℕ). c ∷ b ∷ []) space, record { digits = (d, tt); count_is = refl; value = omega (arith, space) }))
  | inr e ↦ inl (digits_two a b (e, (d, tt)))
]

-- ---- the whole date

abbrev pub is_sign : ℕ → Bool
is_sign c = c == 43 || c == 45

abbrev pub time_of : ℕ → ℕ → ℕ → ℕ
time_of hours minutes seconds = 3600 * hours + 60 * minutes + seconds

abbrev pub zone_of : ℕ → ℕ → ℕ
zone_of hours minutes = 3600 * hours + 60 * minutes

pub record DateOctets (seconds : ℤ) (t : List ℕ) : Type 0 where
  pub d1 : ℕ
  pub d2 : ℕ
  pub month : ℕ
  pub name : List ℕ
  pub y1 : ℕ
  pub y2 : ℕ
  pub y3 : ℕ
  pub y4 : ℕ
  pub h1 : ℕ
  pub h2 : ℕ
  pub m1 : ℕ
  pub m2 : ℕ
  pub s1 : ℕ
  pub s2 : ℕ
  pub sign : ℕ
  pub z1 : ℕ
  pub z2 : ℕ
  pub z3 : ℕ
  pub z4 : ℕ
  pub whole : t ≡ 34 ∷ d1 ∷ d2 ∷ 45 ∷ name ++ 45 ∷ y1 ∷ y2 ∷ y3 ∷ y4 ∷ 32 ∷ h1 ∷ h2 ∷ 58 ∷ m1 ∷ m2 ∷ 58 ∷ s1 ∷ s2 ∷ 32 ∷ sign ∷ z1 ∷ z2 ∷ z3 ∷ z4 ∷ 34 ∷ []
  pub starts : starts_day d1 ≡ true
  pub digit : is_digit d2 ≡ true
  pub month_is : IsMonth month name
  pub year_digits : Each is_digit (y1 ∷ y2 ∷ y3 ∷ y4 ∷ [])
  pub hour_digits : Each is_digit (h1 ∷ h2 ∷ [])
  pub minute_digits : Each is_digit (m1 ∷ m2 ∷ [])
  pub second_digits : Each is_digit (s1 ∷ s2 ∷ [])
  pub is_signed : is_sign sign ≡ true
  pub zone_digits : Each is_digit (z1 ∷ z2 ∷ [])
  pub zone_more : Each is_digit (z3 ∷ z4 ∷ [])
  pub value : seconds ≡ seconds_of (four y1 y2 y3 y4) month (two d1 d2) (time_of (two h1 h2) (two m1 m2) (two s1 s2)) (sign == 43) (zone_of (two z1 z2) (two z3 z4))

sign_east : (east : Bool) → (cond east 43 45 == 43) ≡ east
sign_east true = refl
sign_east false = refl

east_sign : (east : Bool) → is_sign (cond east 43 45) ≡ true
east_sign true = refl
east_sign false = refl

sign_is : (c : ℕ) → is_sign c ≡ true → c ≡ cond (c == 43) 43 45
sign_is c e = by (c == 43) refl (or_cases (c == 43) (c == 45) e)
  where
    by : (b : Bool) → (c == 43) ≡ b → ((c == 43) ≡ true) ⊎ ((c == 45) ≡ true) → c ≡ cond b 43 45
    by true f g = eqb-true c 43 f
    by false f (inl g) = absurd cc
    by false f (inr g) = eqb-true c 45 g

times_two : (time hours minutes seconds a b c : ℕ) → time ≡ time_of hours minutes seconds → hours ≡ a → minutes ≡ b → seconds ≡ c → time ≡ time_of a b c
times_two time hours minutes seconds a b c e f g h = omega (arith, e, f, g, h)

zone_two : (zone hours minutes a b : ℕ) → zone ≡ zone_of hours minutes → hours ≡ a → minutes ≡ b → zone ≡ zone_of a b
zone_two zone hours minutes a b e f g = omega (arith, e, f, g)

-- dates of the same month whose other parts are equal are the same in seconds
pub seconds_same : (year month day time zone year2 day2 time2 zone2 : ℕ) (east east2 : Bool) → year ≡ year2 → day ≡ day2 → time ≡ time2 → east ≡ east2 → zone ≡ zone2
    → seconds_of year month day time east zone ≡ seconds_of year2 month day2 time2 east2 zone2
seconds_same year month day time zone year2 day2 time2 zone2 east east2 a b c d e =
    ap (λ (q : ℕ). seconds_of q month day time east zone) a ∙ ap (λ (q : ℕ). seconds_of year2 month q time east zone) b
    ∙ ap (λ (q : ℕ). seconds_of year2 month day2 q east zone) c ∙ ap (λ (q : Bool). seconds_of year2 month day2 time2 q zone) d
    ∙ ap (λ (q : ℕ). seconds_of year2 month day2 time2 east2 q) e

-- texts joined from the front on, and from the back
rejoin : (a y c z q : List ℕ) → a ++ y ++ c ++ z ++ q ≡ a ++ (y ++ (c ++ (z ++ q)))
rejoin a y c z q = append_assoc (a ++ y ++ c) z q ∙ append_assoc (a ++ y) c (z ++ q) ∙ append_assoc a y (c ++ (z ++ q))

-- the octets of a text that spells a date stand each at its place, and make its seconds
pub octets_of : (seconds : ℤ) (t : List ℕ) → IsDateTime seconds t → DateOctets seconds t
octets_of seconds t h =
    let d = h.date_is in
    let c = h.time_is in
    let z = h.zone_is in
    let day = day_digits h.day d.day_text d.day_is in
    let y = four_digits h.year d.year_text d.year_is in
    let hh = two_digits c.hours c.hour_text c.hours_are in
    let mm = two_digits c.minutes c.minute_text c.minutes_are in
    let ss = two_digits c.seconds c.second_text c.seconds_are in
    let zh = two_digits z.hours z.hour_text z.hours_are in
    let zm = two_digits z.minutes z.minute_text z.minutes_are in
    let sign : ℕ = cond h.east 43 45 in
    let ys : List ℕ = y.first ∷ y.second ∷ y.third ∷ y.fourth ∷ [] in
    let cs : List ℕ = hh.first ∷ hh.second ∷ 58 ∷ mm.first ∷ mm.second ∷ 58 ∷ ss.first ∷ ss.second ∷ [] in
    let zs : List ℕ = sign ∷ zh.first ∷ zh.second ∷ zm.first ∷ zm.second ∷ [] in
    let date : h.date_text ≡ day.first ∷ day.second ∷ 45 ∷ d.month_text ++ 45 ∷ ys = d.whole ∙ ap (λ (u : List ℕ). u ++ 45 ∷ d.month_text ++ 45 ∷ d.year_text) day.whole
    ∙ ap (λ (u : List ℕ). day.first ∷ day.second ∷ 45 ∷ d.month_text ++ 45 ∷ u) y.whole in
    let clock : h.time_text ≡ cs = c.whole ∙ ap (λ (u : List ℕ). u ++ 58 ∷ c.minute_text ++ 58 ∷ c.second_text) hh.whole
    ∙ ap (λ (u : List ℕ). hh.first ∷ hh.second ∷ 58 ∷ u ++ 58 ∷ c.second_text) mm.whole
    ∙ ap (λ (u : List ℕ). hh.first ∷ hh.second ∷ 58 ∷ mm.first ∷ mm.second ∷ 58 ∷ u) ss.whole in
    let zone : h.zone_text ≡ zs = z.whole ∙ ap (λ (u : List ℕ). sign ∷ u ++ z.minute_text) zh.whole ∙ ap (λ (u : List ℕ). sign ∷ zh.first ∷ zh.second ∷ u) zm.whole in
    record {
      d1 = day.first;
      d2 = day.second;
      month = h.month;
      name = d.month_text;
      y1 = y.first;
      y2 = y.second;
      y3 = y.third;
      y4 = y.fourth;
      h1 = hh.first;
      h2 = hh.second;
      m1 = mm.first;
      m2 = mm.second;
      s1 = ss.first;
      s2 = ss.second;
      sign = sign;
      z1 = zh.first;
      z2 = zh.second;
      z3 = zm.first;
      z4 = zm.second;
      whole =
          h.whole ∙ ap (λ (u : List ℕ). 34 ∷ u ++ 32 ∷ h.time_text ++ 32 ∷ h.zone_text ++ 34 ∷ []) date
          ∙ ap (λ (u : List ℕ). 34 ∷ day.first ∷ day.second ∷ 45 ∷ (d.month_text ++ 45 ∷ ys) ++ 32 ∷ u ++ 32 ∷ h.zone_text ++ 34 ∷ []) clock
          ∙ ap (λ (u : List ℕ). 34 ∷ day.first ∷ day.second ∷ 45 ∷ (d.month_text ++ 45 ∷ ys) ++ 32 ∷ cs ++ 32 ∷ u ++ 34 ∷ []) zone
          ∙ ap (λ (u : List ℕ). 34 ∷ day.first ∷ day.second ∷ 45 ∷ u) (rejoin d.month_text (45 ∷ ys) (32 ∷ cs) (32 ∷ zs) (34 ∷ []));
      starts = day.starts;
      digit = day.digit;
      month_is = d.month_is;
      year_digits = y.digits;
      hour_digits = hh.digits;
      minute_digits = mm.digits;
      second_digits = ss.digits;
      is_signed = east_sign h.east;
      zone_digits = zh.digits;
      zone_more = zm.digits;
      value =
          h.value
          ∙ seconds_same h.year h.month h.day h.time h.zone (four y.first y.second y.third y.fourth) (two day.first day.second)
          (time_of (two hh.first hh.second) (two mm.first mm.second) (two ss.first ss.second)) (zone_of (two zh.first zh.second) (two zm.first zm.second)) h.east
          (sign == 43) y.value day.value
          (times_two h.time c.hours c.minutes c.seconds (two hh.first hh.second) (two mm.first mm.second) (two ss.first ss.second) c.value hh.value mm.value ss.value)
          (sym (sign_east h.east)) (zone_two h.zone z.hours z.minutes (two zh.first zh.second) (two zm.first zm.second) z.value zh.value zm.value);
    }

-- octets that stand each at its place spell the date of the seconds that they make
pub of_octets : (seconds : ℤ) (t : List ℕ) → DateOctets seconds t → IsDateTime seconds t
of_octets seconds t o =
    let ys : List ℕ = o.y1 ∷ o.y2 ∷ o.y3 ∷ o.y4 ∷ [] in
    let cs : List ℕ = o.h1 ∷ o.h2 ∷ 58 ∷ o.m1 ∷ o.m2 ∷ 58 ∷ o.s1 ∷ o.s2 ∷ [] in
    let zs : List ℕ = o.sign ∷ o.z1 ∷ o.z2 ∷ o.z3 ∷ o.z4 ∷ [] in
    record {
      year = four o.y1 o.y2 o.y3 o.y4;
      month = o.month;
      day = two o.d1 o.d2;
      time = time_of (two o.h1 o.h2) (two o.m1 o.m2) (two o.s1 o.s2);
      east = o.sign == 43;
      zone = zone_of (two o.z1 o.z2) (two o.z3 o.z4);
      date_text = o.d1 ∷ o.d2 ∷ 45 ∷ o.name ++ 45 ∷ ys;
      time_text = cs;
      zone_text = zs;
      whole = o.whole ∙ ap (λ (u : List ℕ). 34 ∷ o.d1 ∷ o.d2 ∷ 45 ∷ u) (sym (rejoin o.name (45 ∷ ys) (32 ∷ cs) (32 ∷ zs) (34 ∷ [])));
      date_is = record {
        day_text = o.d1 ∷ o.d2 ∷ [];
        month_text = o.name;
        year_text = ys;
        whole = refl;
        day_is = digits_day o.d1 o.d2 o.starts o.digit;
        month_is = o.month_is;
        year_is = digits_four o.y1 o.y2 o.y3 o.y4 o.year_digits;
      };
      time_is = record {
        hours = two o.h1 o.h2;
        minutes = two o.m1 o.m2;
        seconds = two o.s1 o.s2;
        hour_text = o.h1 ∷ o.h2 ∷ [];
        minute_text = o.m1 ∷ o.m2 ∷ [];
        second_text = o.s1 ∷ o.s2 ∷ [];
        whole = refl;
        hours_are = digits_two o.h1 o.h2 o.hour_digits;
        minutes_are = digits_two o.m1 o.m2 o.minute_digits;
        seconds_are = digits_two o.s1 o.s2 o.second_digits;
        value = refl;
      };
      zone_is = record {
        hours = two o.z1 o.z2;
        minutes = two o.z3 o.z4;
        hour_text = o.z1 ∷ o.z2 ∷ [];
        minute_text = o.z3 ∷ o.z4 ∷ [];
        whole = ap (λ (c : ℕ). c ∷ o.z1 ∷ o.z2 ∷ o.z3 ∷ o.z4 ∷ []) (sign_is o.sign o.is_signed);
        hours_are = digits_two o.z1 o.z2 o.zone_digits;
        minutes_are = digits_two o.z3 o.z4 o.zone_more;
        value = refl;
      };
      value = o.value;
    }
