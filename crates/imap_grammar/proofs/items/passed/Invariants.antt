use Rattle.std.proofs.Common.{length}
use Rattle.pushdown.specs.Symbols.{symbols_of}
use Rattle.imap_grammar.proofs.PassingReadings.{PassedTo}
use Rattle.imap_grammar.proofs.items.passed.Given as goal

abbrev pub invariant-passing : goal.invariant-passing
invariant-passing l = PassedTo l.bytes l.rest (symbols_of l.stack)

abbrev pub decreases-passing : goal.decreases-passing
decreases-passing l = length l.rest
