use Rattle.std.proofs.Common.{length}
use Rattle.pushdown.specs.Symbols.{symbols_of}
use Rattle.pushdown.proofs.runs.+advance_within.Given as goal

abbrev pub decreases-advance_within : goal.decreases-advance_within
decreases-advance_within g l = length (symbols_of l.stack.now)
