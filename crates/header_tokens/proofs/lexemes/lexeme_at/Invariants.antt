use Rattle.std.proofs.Common.{◌≡◌, ◌≤◌, length}
use Rattle.header_tokens.specs.reading.LexemeReading.{lexemes_in}
use Rattle.header_tokens.proofs.LexemeLemmas.{FirstOf}
use Rattle.header_tokens.proofs.lexemes.lexeme_at.Given as goal

abbrev pub invariant-loop-token : goal.invariant-loop-token
invariant-loop-token l = record {
  lexemes : lexemes_in l.fn.alphabet l.rest ≡ lexemes_in l.fn.alphabet l.text;
  first : FirstOf l.fn.alphabet l.rest l.text;
  within : length l.rest ≤ length l.text;
}

abbrev pub decreases-loop-token : goal.decreases-loop-token
decreases-loop-token l = length l.rest
