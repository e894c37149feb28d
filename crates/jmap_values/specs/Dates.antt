-- Dates (RFC 8620 section 1.4, RFC 3339 section 5.6), part by part: what stands at the front, and what follows it.
use Rattle.std.specs.Prelude.{ℕ, ◌+◌, ◌*◌, ◌==◌, ◌&&◌, nat_le, Bool, if◌then◌else◌, ℤ, pos, int_le, ◌+ℤ◌, ◌-ℤ◌}
use Rattle.std.specs.Prelude.{List, [], ◌∷◌, length, take, drop, bytes_eq, codes, Option, Some, None, option_map}
use Rattle.std.specs.List.{list_all}
use Rattle.text_words.specs.Cuts.{front, back}
use Rattle.text_words.specs.Octets.{is_digit}
use Rattle.header_dates.specs.Dates.{value_from, moment_of}
use Rattle.header_dates.specs.declared.date.Clock.{Clock}
use Rattle.header_dates.specs.declared.date.Day.{Day}
use Rattle.header_dates.specs.declared.date.Moment.{Moment}

module _ {A B : Type 0} where
  -- one after the other, in the order of the text
  abbrev pub and_then_in : Option A → (A → Option B) → Option B
  and_then_in None more = None
  and_then_in (Some a) more = more a

-- ---- the day and the time

-- what follows the octet
abbrev pub after : ℕ → List ℕ → Option (List ℕ)
after octet [] = None
after octet (c ∷ t) = if c == octet then Some t else None

-- the number of so many digits, and what follows them
abbrev pub number_at : ℕ → List ℕ → Option (ℕ × List ℕ)
number_at digits t =
    if nat_le digits (length t) && list_all is_digit (take digits t) then Some (value_from 0 (take digits t), drop digits t) else None

-- a mark and the number of two digits
abbrev pub two_digits_after : ℕ → List ℕ → Option (ℕ × List ℕ)
two_digits_after mark t = and_then_in (after mark t) (number_at 2)

pub record ThreeNumbers : Type 0 where
  pub first : ℕ
  pub second : ℕ
  pub third : ℕ
  pub rest : List ℕ

-- three numbers with marks between them, the first of so many digits, and what follows them
abbrev pub three_numbers : ℕ → ℕ → List ℕ → Option ThreeNumbers
three_numbers digits mark t =
    and_then_in (number_at digits t) (λ a.
    and_then_in (two_digits_after mark a.1) (λ b.
    and_then_in (two_digits_after mark b.1) (λ c.
    Some (record { first = a.0; second = b.0; third = c.0; rest = c.1 }))))

-- full-date = 4DIGIT "-" 2DIGIT "-" 2DIGIT
abbrev pub date_at : List ℕ → Option ThreeNumbers
date_at = three_numbers 4 45

-- "T", and 2DIGIT ":" 2DIGIT ":" 2DIGIT
abbrev pub time_after : List ℕ → Option ThreeNumbers
time_after t = and_then_in (after 84 t) (three_numbers 2 58)

abbrev pub day_of : ThreeNumbers → Day
day_of n = record { year = n.first; month = n.second; day = n.third }

abbrev pub clock_of : ThreeNumbers → Clock
clock_of n = record { hour = n.first; minute = n.second; second = n.third }

-- ---- fractions and zones

-- the digits of a fraction, and what follows them
abbrev pub fraction_digits : List ℕ → Option (List ℕ × List ℕ)
fraction_digits t = if nat_le 1 (length (front is_digit t)) then Some (front is_digit t, back is_digit t) else None

-- time-secfrac = "." 1*DIGIT, which may not be there
abbrev pub fraction_at : List ℕ → Option (List ℕ × List ℕ)
fraction_at [] = Some ([], [])
fraction_at (c ∷ t) = if c == 46 then fraction_digits t else Some ([], c ∷ t)

-- minutes of a zone, where there are so many hours and minutes
abbrev pub zone_minutes : ℕ → ℕ → Option ℕ
zone_minutes hours minutes = if nat_le hours 23 && nat_le minutes 59 then Some (hours * 60 + minutes) else None

module _ {A : Type 0} where
  -- a value with nothing after it
  abbrev pub ends : List ℕ → A → Option A
  ends [] a = Some a
  ends (c ∷ t) a = None

-- 2DIGIT ":" 2DIGIT in minutes, and nothing after it
abbrev pub offset_in : List ℕ → Option ℕ
offset_in t =
    and_then_in (number_at 2 t) (λ h.
    and_then_in (two_digits_after 58 h.1) (λ m.
    and_then_in (zone_minutes h.0 m.0) (λ n.
    ends m.1 n)))

-- time-offset = "Z" / ("+" / "-") 2DIGIT ":" 2DIGIT, in minutes east of UTC
abbrev pub zone_in : List ℕ → Option ℤ
zone_in [] = None
zone_in (c ∷ t) =
    if c == 90 then ends t (pos 0)
    else if c == 43 then option_map (λ n. pos n) (offset_in t)
    else if c == 45 then option_map (λ n. pos 0 -ℤ pos n) (offset_in t)
    else None

-- ---- dates

-- The moment of a Date, which is in its zone. Of second 60, a leap second, it is second 59, and a fraction is dropped.
unfoldable pub moment_in : List ℕ → Option Moment
moment_in t =
    and_then_in (date_at t) (λ date.
    and_then_in (time_after date.rest) (λ time.
    and_then_in (fraction_at time.rest) (λ fraction.
    and_then_in (zone_in fraction.1) (λ zone.
    moment_of (day_of date) (clock_of time) zone))))

abbrev pub are_zeros : List ℕ → Bool
are_zeros t = list_all (λ c. c == 48) t

-- how many whole seconds a fraction is, rounded up
abbrev pub rounded_up : List ℕ → ℕ
rounded_up digits = if are_zeros digits then 0 else 1

-- second 60 is one second after 59, of which a moment is
abbrev pub after_59 : Clock → ℕ
after_59 c = if c.second == 60 then 1 else 0

-- no later than 9999-12-31T23:59:59Z
abbrev pub in_four_digits : ℤ → Option ℤ
in_four_digits z = if int_le z (pos 253402300799) then Some z else None

-- the seconds of a time in UTC, where it exists, and so many more
abbrev pub seconds_on : Day → Clock → ℕ → Option ℤ
seconds_on day clock more = option_map (λ m. m.seconds +ℤ pos (after_59 clock + more)) (moment_of day clock (pos 0))

abbrev pub is_utc : List ℕ → Bool
is_utc t = bytes_eq t (codes "Z")

-- The first whole second from a UTCDate on, since 1970-01-01T00:00:00Z: what is received at a whole second is before that just where it is before the date.
-- Its zone is "Z".
unfoldable pub first_second_from : List ℕ → Option ℤ
first_second_from t =
    and_then_in (date_at t) (λ date.
    and_then_in (time_after date.rest) (λ time.
    and_then_in (fraction_at time.rest) (λ fraction.
    if is_utc fraction.1 then seconds_on (day_of date) (clock_of time) (rounded_up fraction.0) else None)))

-- the same of the years 0 to 9999
unfoldable pub utc_seconds_in : List ℕ → Option ℤ
utc_seconds_in t = and_then_in (first_second_from t) in_four_digits
