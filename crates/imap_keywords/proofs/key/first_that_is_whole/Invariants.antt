use Rattle.std.proofs.Common.{◌≡◌, drop}
use Rattle.std.specs.Prelude.{find}
use Rattle.imap_keywords.specs.Keys as keywords
use Rattle.imap_keywords.proofs.key.first_that_is_whole.Given as goal

abbrev pub invariant-loop-candidate : goal.invariant-loop-candidate
invariant-loop-candidate l =
    find (keywords.is_whole l.fn.key l.fn.at) (drop l.candidate-index l.fn.candidates) ≡ find (keywords.is_whole l.fn.key l.fn.at) l.fn.candidates
