-- How texts compare: by their octets, with A to Z as a to z.
use Rattle.std.specs.Prelude.{ℕ, List, map}
use Rattle.std.specs.Char.{to_ascii_lowercase}
use Rattle.std.specs.Cmp.Lexicographic.{slice_cmp}
use Rattle.std.specs.declared.cmp.Ordering.{Ordering}
use Rattle.std.specs.Ordering.{nat_cmp, on}

abbrev pub folded : List ℕ → List ℕ
folded text = map to_ascii_lowercase text

abbrev pub text_cmp : List ℕ → List ℕ → Ordering
text_cmp = on folded (slice_cmp nat_cmp)
