use Rattle.std.proofs.Common.{◌≡◌, drop}
use Rattle.std.specs.Prelude.{find}
use Rattle.imap_keywords.specs.Keys as keywords
use Rattle.imap_keywords.proofs.key.first_that_goes_on.Given as goal

abbrev pub invariant-loop-candidate : goal.invariant-loop-candidate
invariant-loop-candidate l =
    find (keywords.goes_on l.fn.key l.fn.at l.fn.c) (drop l.candidate-index l.fn.candidates) ≡ find (keywords.goes_on l.fn.key l.fn.at l.fn.c) l.fn.candidates
