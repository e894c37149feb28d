use Rattle.std.proofs.Common.{take}
use Rattle.imap_grammar.specs.Fed.{IsScannerFed}
use Rattle.grammar_tests.proofs.scans.fed.Given as goal

abbrev pub invariant-loop-octet : goal.invariant-loop-octet
invariant-loop-octet l = IsScannerFed l.scanner (take l.octet-index l.bytes)
