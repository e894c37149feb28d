-- How the code of a status line is read. That it is the code which the line has, and the only one, is a law of this
-- crate.
use Rattle.std.specs.Prelude.{ℕ, zero, suc, Bool, ◌&&◌, nat_lt, nat_le, ◌==◌, if◌then◌else◌, List, [], ◌∷◌, length, map, drop, get_or, codes, bytes_eq, Option}
use Rattle.std.specs.Prelude.{Some, None, unwrap_or}
use Rattle.std.specs.List.{list_all}
use Rattle.imap_types.specs.declared.code.Code.{Code}
use Rattle.imap_types.specs.declared.code.Code.TheVariants as code
use Rattle.imap_types.specs.declared.uid_set.UidRange.{UidRange}
use Rattle.imap_types.specs.Octets.{is_digit, lower}
use Rattle.imap_types.specs.Numbers.{value_from}
use Rattle.imap_types.specs.UidSets.{range_of}

abbrev pub put_front : ℕ → Option (List ℕ × List ℕ) → Option (List ℕ × List ℕ)
put_front d None = None
put_front d (Some r) = Some (d ∷ r.0, r.1)

-- what stands before the first such octet, and what follows it
unfoldable pub cut : ℕ → List ℕ → Option (List ℕ × List ℕ)
cut c [] = None
cut c (d ∷ t) = if d == c then Some ([], t) else put_front d (cut c t)

-- ---- numbers

abbrev pub is_decimal : ℕ → ℕ → List ℕ → Bool
is_decimal digits most t = list_all is_digit t && nat_lt 0 (length t) && nat_le (length t) digits && nat_le (value_from 0 t) most

unfoldable pub nonzero_in : List ℕ → Option ℕ
nonzero_in t = if is_decimal 10 4294967295 t && nat_lt 0 (value_from 0 t) then Some (value_from 0 t) else None

unfoldable pub long_in : List ℕ → Option ℕ
long_in t = if is_decimal 19 9223372036854775807 t then Some (value_from 0 t) else None

-- ---- sets of UIDs

abbrev pub one_range : Option ℕ → Option UidRange
one_range None = None
one_range (Some n) = Some (range_of n n)

abbrev pub two_range : Option ℕ → Option ℕ → Option UidRange
two_range (Some m) (Some n) = Some (range_of m n)
two_range _ _ = None

abbrev pub range_by : List ℕ → Option (List ℕ × List ℕ) → Option UidRange
range_by t None = one_range (nonzero_in t)
range_by t (Some r) = two_range (nonzero_in r.0) (nonzero_in r.1)

unfoldable pub range_in : List ℕ → Option UidRange
range_in t = range_by t (cut 58 t)

abbrev pub one_in_set : Option UidRange → Option (List UidRange)
one_in_set None = None
one_in_set (Some r) = Some (r ∷ [])

abbrev pub more_in_set : Option UidRange → Option (List UidRange) → Option (List UidRange)
more_in_set (Some r) (Some rs) = Some (r ∷ rs)
more_in_set _ _ = None

-- at most n ranges
unfoldable pub ranges_in : ℕ → List ℕ → Option (List UidRange)
ranges_in zero t = None
ranges_in (suc most) t = elim (cut 44 t) [ None ↦ one_in_set (range_in t) | Some r ↦ more_in_set (range_in r.0) (ranges_in most r.1) ]

unfoldable pub set_in : List ℕ → Option (List UidRange)
set_in t = ranges_in (length t) t

-- ---- codes

-- a code that is a word
unfoldable pub bare_code : List ℕ → Option Code
bare_code w =
    if bytes_eq w (codes "nomodseq") then Some code.NoModSeq
    else if bytes_eq w (codes "closed") then Some code.Closed
    else if bytes_eq w (codes "overquota") then Some code.OverQuota else None

abbrev pub validity_of : Option ℕ → Option Code
validity_of None = None
validity_of (Some n) = Some (code.UidValidity n)

abbrev pub next_of : Option ℕ → Option Code
next_of None = None
next_of (Some n) = Some (code.UidNext n)

abbrev pub modseq_of : Option ℕ → Option Code
modseq_of None = None
modseq_of (Some n) = Some (code.HighestModSeq n)

abbrev pub appended : Option ℕ → Option ℕ → Option Code
appended (Some validity) (Some uid) = Some (code.AppendUid validity uid)
appended _ _ = None

abbrev pub append_in : Option (List ℕ × List ℕ) → Option Code
append_in None = None
append_in (Some r) = appended (nonzero_in r.0) (nonzero_in r.1)

abbrev pub copied : Option ℕ → Option (List UidRange) → Option (List UidRange) → Option Code
copied (Some validity) (Some from) (Some to) = Some (code.CopyUid validity (record { ranges = from }) (record { ranges = to }))
copied _ _ _ = None

abbrev pub sets_in : Option ℕ → Option (List ℕ × List ℕ) → Option Code
sets_in validity None = None
sets_in validity (Some r) = copied validity (set_in r.0) (set_in r.1)

abbrev pub copy_in : Option (List ℕ × List ℕ) → Option Code
copy_in None = None
copy_in (Some r) = sets_in (nonzero_in r.0) (cut 32 r.1)

-- a code that is a word and what follows it after a space
unfoldable pub code_with : List ℕ → List ℕ → Option Code
code_with w t =
    if bytes_eq w (codes "uidvalidity") then validity_of (nonzero_in t)
    else if bytes_eq w (codes "uidnext") then next_of (nonzero_in t)
    else if bytes_eq w (codes "highestmodseq") then modseq_of (long_in t)
    else if bytes_eq w (codes "appenduid") then append_in (cut 32 t)
    else if bytes_eq w (codes "copyuid") then copy_in (cut 32 t) else None

-- the text between the brackets
abbrev pub known_by : List ℕ → Option (List ℕ × List ℕ) → Option Code
known_by t None = bare_code (map lower t)
known_by t (Some r) = code_with (map lower r.0) r.1

unfoldable pub known_in : List ℕ → Option Code
known_in t = known_by t (cut 32 t)

abbrev pub code_by : Option (List ℕ × List ℕ) → Code
code_by None = code.Absent
code_by (Some r) = unwrap_or (known_in r.0) code.Other

-- what follows a status
unfoldable pub code_in : List ℕ → Code
code_in t = if get_or t 0 0 == 32 && get_or t 1 0 == 91 then code_by (cut 93 (drop 2 t)) else code.Absent
