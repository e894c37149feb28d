use Rattle.std.proofs.Common.{◌≡◌, ◌++◌, List, ℕ, length}
use Rattle.imap_grammar.specs.Fed.{IsScannerFed}
use Rattle.scan_speed.proofs.first.Given as goal

abbrev pub invariant-loop-rest : goal.invariant-loop-rest
invariant-loop-rest l = (front : List ℕ) × (l.bytes ≡ front ++ l.rest) × IsScannerFed l.scanner front

abbrev pub decreases-loop-rest : goal.decreases-loop-rest
decreases-loop-rest l = length l.rest
