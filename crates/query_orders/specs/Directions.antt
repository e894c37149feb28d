-- Ascending and descending.
use Rattle.std.specs.Prelude.{Bool, true, false}
use Rattle.std.specs.declared.cmp.Ordering.{Ordering}
use Rattle.std.specs.Ordering.{ordering_reverse}

-- in this direction
abbrev pub directed : Bool → Ordering → Ordering
directed true o = o
directed false o = ordering_reverse o
