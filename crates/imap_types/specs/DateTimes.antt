-- The date of a message as a store tells it (RFC 9051 section 9, date-time), in seconds since 1970-01-01T00:00:00Z.
use Rattle.std.specs.Prelude.{◌≡◌, ◌⊎◌, ℕ, ◌+◌, ◌-◌, ◌*◌, ◌≤◌, min, Bool, ℤ, pos, ◌-ℤ◌, if◌then◌else◌, List, [], ◌∷◌, ◌++◌, length, map}
use Rattle.jiff_core.specs.Calendar.{day_count}
use Rattle.imap_types.specs.Octets.{is_digit, lower}
use Rattle.imap_types.specs.Texts.{Each, IsWord}
use Rattle.imap_types.specs.Numbers.{value_from}
use Rattle.imap_types.specs.Dates.{month_name}

-- ---- seconds

-- the days from the first of January of the year 0 to the first of the month
abbrev pub days_to : ℕ → ℕ → ℕ
days_to year month = day_count (pos year) month 1 - day_count (pos 0) 1 1

-- n seconds from the year 0 on, less m of them, kept within the years 0 to 9999 and counted from 1970 on
abbrev pub kept_within : ℕ → ℕ → ℤ
kept_within on off = pos (min (on - off) 315569519999) -ℤ pos 62167219200

-- those of the first day of the month at 00:00:00, plus (day - 1) days and the time, less the zone's seconds east
abbrev pub seconds_of : ℕ → ℕ → ℕ → ℕ → Bool → ℕ → ℤ
seconds_of year month day time east zone =
    if east then kept_within (86400 * (days_to year month + day) + time) (86400 + zone)
    else kept_within (86400 * (days_to year month + day) + time + zone) 86400

-- ---- texts

-- n digits, which make the number
pub record IsDigits (count n : ℕ) (t : List ℕ) : Type 0 where
  pub digits : Each is_digit t
  pub count_is : length t ≡ count
  pub value : n ≡ value_from 0 t

-- date-day-fixed = (SP DIGIT) / 2DIGIT
abbrev pub IsFixedDay : ℕ → List ℕ → Type 0
IsFixedDay n t = IsDigits 2 n t ⊎ ((digit : List ℕ) × (t ≡ 32 ∷ digit) × IsDigits 1 n digit)

-- date-month = "Jan" / "Feb" / .. / "Dec"
abbrev pub IsMonth : ℕ → List ℕ → Type 0
IsMonth n t = (1 ≤ n) × (n ≤ 12) × IsWord (map lower (month_name n)) t

-- date-day-fixed "-" date-month "-" date-year
pub record IsDate (year month day : ℕ) (t : List ℕ) : Type 0 where
  pub day_text : List ℕ
  pub month_text : List ℕ
  pub year_text : List ℕ
  pub whole : t ≡ day_text ++ 45 ∷ month_text ++ 45 ∷ year_text
  pub day_is : IsFixedDay day day_text
  pub month_is : IsMonth month month_text
  pub year_is : IsDigits 4 year year_text

-- time = 2DIGIT ":" 2DIGIT ":" 2DIGIT, in seconds
pub record IsTime (time : ℕ) (t : List ℕ) : Type 0 where
  pub hours : ℕ
  pub minutes : ℕ
  pub seconds : ℕ
  pub hour_text : List ℕ
  pub minute_text : List ℕ
  pub second_text : List ℕ
  pub whole : t ≡ hour_text ++ 58 ∷ minute_text ++ 58 ∷ second_text
  pub hours_are : IsDigits 2 hours hour_text
  pub minutes_are : IsDigits 2 minutes minute_text
  pub seconds_are : IsDigits 2 seconds second_text
  pub value : time ≡ 3600 * hours + 60 * minutes + seconds

-- zone = ("+" / "-") 4DIGIT, hours and minutes, in seconds
pub record IsZone (east : Bool) (zone : ℕ) (t : List ℕ) : Type 0 where
  pub hours : ℕ
  pub minutes : ℕ
  pub hour_text : List ℕ
  pub minute_text : List ℕ
  pub whole : t ≡ (if east then 43 else 45) ∷ hour_text ++ minute_text
  pub hours_are : IsDigits 2 hours hour_text
  pub minutes_are : IsDigits 2 minutes minute_text
  pub value : zone ≡ 3600 * hours + 60 * minutes

-- date-time = DQUOTE date-day-fixed "-" date-month "-" date-year SP time SP zone DQUOTE
pub record IsDateTime (seconds : ℤ) (t : List ℕ) : Type 0 where
  pub year : ℕ
  pub month : ℕ
  pub day : ℕ
  pub time : ℕ
  pub east : Bool
  pub zone : ℕ
  pub date_text : List ℕ
  pub time_text : List ℕ
  pub zone_text : List ℕ
  pub whole : t ≡ 34 ∷ date_text ++ 32 ∷ time_text ++ 32 ∷ zone_text ++ 34 ∷ []
  pub date_is : IsDate year month day date_text
  pub time_is : IsTime time time_text
  pub zone_is : IsZone east zone zone_text
  pub value : seconds ≡ seconds_of year month day time east zone
