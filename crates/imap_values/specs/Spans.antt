-- Runs of octets, numbers and flags at the front of octets.
use Rattle.std.specs.Prelude.{ℕ, zero, suc, ◌+◌, ◌-◌, ◌*◌, Bool, true, not, ◌&&◌, nat_lt, nat_le, ◌==◌, if◌then◌else◌, List, [], ◌∷◌, length, map, take, drop}
use Rattle.std.specs.Prelude.{get_or}
use Rattle.imap_types.specs.Octets.{is_digit, lower}
use Rattle.imap_types.specs.Items.{add_name}

-- how many octets at the front are of the class
unfoldable pub span : (ℕ → Bool) → List ℕ → ℕ
span p [] = 0
span p (c ∷ b) = if p c then suc (span p b) else 0

-- an octet of a tag, of an item's name or of a flag
abbrev pub in_name : ℕ → Bool
in_name c = not (c == 32) && not (c == 41)

-- the number, or one more than the most where it is greater
abbrev pub cap : ℕ → ℕ → ℕ
cap most n = if nat_le n most then n else most + 1

-- the same of the number that the digits go on to make
unfoldable pub count_from : ℕ → ℕ → List ℕ → ℕ
count_from most n [] = n
count_from most n (c ∷ t) = count_from most (cap most (10 * n + (c - 48))) t

abbrev pub number_from : ℕ → List ℕ → ℕ
number_from n t = count_from 4294967295 n t

-- the number, or 2^63 where it is greater
abbrev pub long_value : List ℕ → ℕ
long_value t = count_from 9223372036854775807 0 t

-- the number, or 2^32 - 1 where it is greater
abbrev pub number_in : List ℕ → ℕ
number_in t = if nat_le (number_from 0 t) 4294967295 then number_from 0 t else 4294967295

unfoldable pub all_digits : List ℕ → Bool
all_digits [] = true
all_digits (c ∷ t) = is_digit c && all_digits t

-- one to ten digits, and at most 2^32 - 1
unfoldable pub is_sequence : List ℕ → Bool
is_sequence w = nat_lt 0 (length w) && nat_le (length w) 10 && all_digits w && nat_le (number_from 0 w) 4294967295

-- ---- flags

-- at most n names, and what follows the closing bracket
unfoldable pub names_in : ℕ → List (List ℕ) → List ℕ → List (List ℕ) × List ℕ
names_in zero so_far b = (so_far, b)
names_in (suc most) so_far b =
    let n = span in_name b in
    let next = add_name so_far (map lower (take n b)) in
    if get_or b n 0 == 32 then names_in most next (drop (n + 1) b) else (next, drop (n + 1) b)

-- from after the opening bracket on
unfoldable pub flags_in : List ℕ → List (List ℕ) × List ℕ
flags_in b = if get_or b 0 0 == 41 then ([], drop 1 b) else names_in (length b) [] b
