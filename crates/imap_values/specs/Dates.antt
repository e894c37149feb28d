-- How a spelled date is read back, by the places of its octets.
use Rattle.std.specs.Prelude.{ℕ, ◌+◌, ◌-◌, ◌*◌, ◌==◌, if◌then◌else◌, List, map, take, drop, get_or, codes, bytes_eq, ℤ}
use Rattle.imap_types.specs.Octets.{is_digit, lower}
use Rattle.imap_types.specs.DateTimes.{seconds_of}

-- the digit at a place, or 0
abbrev pub digit_at : List ℕ → ℕ → ℕ
digit_at b at = if is_digit (get_or b at 0) then get_or b at 0 - 48 else 0

-- the number of the two digits from a place on
abbrev pub two_at : List ℕ → ℕ → ℕ
two_at b at = 10 * digit_at b at + digit_at b (at + 1)

-- a month by its name in lower case
unfoldable pub month_named : List ℕ → ℕ
month_named w =
    if bytes_eq w (codes "jan") then 1 else if bytes_eq w (codes "feb") then 2 else if bytes_eq w (codes "mar") then 3
    else if bytes_eq w (codes "apr") then 4 else if bytes_eq w (codes "may") then 5 else if bytes_eq w (codes "jun") then 6
    else if bytes_eq w (codes "jul") then 7 else if bytes_eq w (codes "aug") then 8 else if bytes_eq w (codes "sep") then 9
    else if bytes_eq w (codes "oct") then 10 else if bytes_eq w (codes "nov") then 11 else 12

-- from the quote on
unfoldable pub date_in : List ℕ → ℤ
date_in b =
    seconds_of (100 * two_at b 8 + two_at b 10) (month_named (map lower (take 3 (drop 4 b)))) (two_at b 1)
    (3600 * two_at b 13 + 60 * two_at b 16 + two_at b 19) (get_or b 22 0 == 43) (3600 * two_at b 23 + 60 * two_at b 25)
