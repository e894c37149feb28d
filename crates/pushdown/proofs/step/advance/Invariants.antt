use Rattle.std.proofs.Common.{◌≡◌, length}
use Rattle.pushdown.specs.Run.{step}
use Rattle.pushdown.specs.Flow.{CanStep}
use Rattle.pushdown.specs.Lawful.{IsLawful}
use Rattle.pushdown.specs.Symbols.{symbols_of}
use Rattle.pushdown.proofs.step.advance.Given as goal

abbrev pub invariant-loop-symbol : goal.invariant-loop-symbol
invariant-loop-symbol g l = record {
  laws : IsLawful g.S.Symbol.automaton;
  ready : CanStep g.S.Symbol.automaton (symbols_of l.stack);
  same : step g.S.Symbol.automaton (symbols_of l.fn.stack) l.c ≡ step g.S.Symbol.automaton (symbols_of l.stack) l.c;
}

abbrev pub decreases-loop-symbol : goal.decreases-loop-symbol
decreases-loop-symbol g l = length (symbols_of l.stack)
