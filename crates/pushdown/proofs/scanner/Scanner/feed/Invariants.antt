use Rattle.std.proofs.Common.{ℕ, List, length}
use Rattle.pushdown.specs.Lawful.{IsLawful}
use Rattle.pushdown.specs.Fed.{Fed, FedUpTo}
use Rattle.pushdown.proofs.scanner.Scanner.feed.Given as goal

abbrev pub invariant-feeding : goal.invariant-feeding
invariant-feeding g l = record {
  laws : IsLawful g.S.Symbol.automaton;
  fed : (b : List ℕ) → Fed g.S.Symbol.automaton l.fn.self b → FedUpTo g.S.Symbol.automaton l.self b l.piece l.rest;
}

abbrev pub decreases-feeding : goal.decreases-feeding
decreases-feeding g l = length l.rest
