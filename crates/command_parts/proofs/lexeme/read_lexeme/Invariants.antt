use Rattle.std.proofs.Common.{◌≡◌, drop}
use Rattle.command_parts.specs.reading.Steps.{read_from}
use Rattle.command_parts.proofs.lexeme.read_lexeme.Given as goal

abbrev pub invariant-loop-i : goal.invariant-loop-i
invariant-loop-i g l = read_from g.L.Lexeme.advance_of l.lexeme (drop l.i l.bytes) ≡ read_from g.L.Lexeme.advance_of l.fn.start l.bytes
