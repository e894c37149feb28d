-- Names compared with the keywords of flags, without a set.
use Rattle.std.specs.Prelude.{ℕ, List, [], ◌∷◌, Bool, true, ◌&&◌}
use Rattle.std.specs.Ordering.{nat_cmp, is_lt}
use Rattle.std.specs.Cmp.Lexicographic.{slice_cmp}
use Rattle.mail_maps.specs.Keywords.{has_name}

-- whether each name is above the one before it
abbrev pub ascend_from : List ℕ → List (List ℕ) → Bool
ascend_from before [] = true
ascend_from before (x ∷ xs) = is_lt (slice_cmp nat_cmp before x) && ascend_from x xs

abbrev pub ascend : List (List ℕ) → Bool
ascend [] = true
ascend (x ∷ xs) = ascend_from x xs

-- whether each of the names is among the others
abbrev pub are_among : List (List ℕ) → List (List ℕ) → Bool
are_among others [] = true
are_among others (x ∷ xs) = has_name x others && are_among others xs
