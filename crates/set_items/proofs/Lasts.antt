-- The last of the values that responses tell.
use Rattle.std.proofs.Common.{Option, Some, None}

-- the later one of two, where there is one
abbrev pub later : {X : Type 0} → Option X → Option X → Option X
later was None = was
later was (Some x) = Some x
