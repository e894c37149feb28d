use Rattle.std.proofs.Common.{◌≡◌, length}
use Rattle.header_tokens.specs.reading.LexemeReading.{rest_in}
use Rattle.header_tokens.proofs.lexemes.behind_tokens.Given as goal

abbrev pub invariant-loop-behind : goal.invariant-loop-behind
invariant-loop-behind l = rest_in l.fn.alphabet l.rest ≡ rest_in l.fn.alphabet l.text

abbrev pub decreases-loop-behind : goal.decreases-loop-behind
decreases-loop-behind l = length l.rest
