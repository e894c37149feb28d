use Rattle.std.proofs.Common.{ℕ, List}
use Rattle.imap_grammar.specs.Fed.{IsScannerFed}
use Rattle.grammar_tests.proofs.scans.after.Given as goal

abbrev pub invariant-loop : goal.invariant-loop
invariant-loop l = (b : List ℕ) × IsScannerFed l.scanner b
