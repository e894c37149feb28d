-- Which values are taken.
use Rattle.std.specs.Prelude.{ℕ, List, length, Bool, not, ◌&&◌, ◌||◌, ◌==◌, nat_eq, nat_lt, codes}
use Rattle.std.specs.List.{list_any, starts_with, ends_with}
use Rattle.gate_words.specs.declared.rules.TheConstants.{DELETE}

-- a control character of ASCII
abbrev pub is_control : ℕ → Bool
is_control octet = nat_lt octet 32 || octet == DELETE

-- not empty, and no control character
abbrev pub is_user : List ℕ → Bool
is_user text = nat_lt 0 (length text) && not (list_any is_control text)

abbrev pub is_http : List ℕ → Bool
is_http text = starts_with nat_eq text (codes "http://") || starts_with nat_eq text (codes "https://")

-- a URL to which a path can be added
abbrev pub is_base : List ℕ → Bool
is_base text = is_http text && not (ends_with nat_eq text (codes "/")) && not (list_any is_control text)
