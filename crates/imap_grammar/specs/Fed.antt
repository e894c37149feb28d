-- What a scanner was fed.
use Rattle.std.specs.Prelude.{List, ℕ}
use Rattle.imap_automaton.specs.Responses.{responses}
use Rattle.imap_grammar.specs.declared.answer.Scan.{Scan}
use Rattle.imap_grammar.specs.declared.answer.Scan.TheVariants as scan
use Rattle.imap_grammar.specs.declared.scanner.Scanner.{Scanner}
use Rattle.pushdown.specs.declared.answer.Answer.{Answer}
use Rattle.pushdown.specs.declared.answer.Answer.TheVariants as answer
use Rattle.pushdown.specs.Fed as automaton

-- the scanner was fed these octets, and answered that it needs more
abbrev pub IsScannerFed : Scanner → List ℕ → Type 0
IsScannerFed s b = automaton.Fed responses s.scanner b

-- what the automaton's answer says of responses
abbrev pub scan_of : Answer → Scan
scan_of (answer.Whole n) = scan.Whole n
scan_of answer.NeedMore = scan.NeedMore
scan_of (answer.Bad at) = scan.Bad at
