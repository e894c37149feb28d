use Rattle.std.proofs.Common.{◌≡◌, ◌<◌, ◌≤◌, ◌-◌, length, take, Some}
use Rattle.pushdown.specs.Flow.{Ready}
use Rattle.pushdown.specs.Run.{run}
use Rattle.pushdown.specs.Lawful.{IsLawful}
use Rattle.pushdown.specs.Symbols.{symbols_of}
use Rattle.pushdown.proofs.runs.advance_through.Given as goal

abbrev pub invariant-loop-count : goal.invariant-loop-count
invariant-loop-count g l = record {
  laws : IsLawful g.S.Symbol.automaton;
  within : l.count ≤ length l.octets;
  run : run g.S.Symbol.automaton (Some (symbols_of l.fn.stack)) (take l.count l.octets) ≡ Some (symbols_of l.stack);
  ready : Ready g.S.Symbol.automaton (symbols_of l.stack);
  some : 0 < length (symbols_of l.fn.stack) → 0 < length (symbols_of l.stack);
}

abbrev pub decreases-loop-count : goal.decreases-loop-count
decreases-loop-count g l = length l.octets - l.count
