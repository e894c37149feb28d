use Rattle.std.proofs.Common.{◌≡◌, length, map, List}
use Rattle.message_lines.specs.Folding.{FieldPiece, plain_piece}
use Rattle.message_lines.specs.Names.{words_of}
use Rattle.message_lines.proofs.LineLemmas.{Goes}
use Rattle.message_lines.proofs.NameLemmas.{words_behind}
use Rattle.message_lines.proofs.names.push_plain_words.Given as goal

abbrev pub invariant-loop-rest : goal.invariant-loop-rest
invariant-loop-rest l =
    Goes (λ (ps : List FieldPiece). ps ≡ map plain_piece (words_of l.name)) (λ (ps : List FieldPiece). ps ≡ map plain_piece (words_behind l.rest)) l.fn.line l.fn.text l.after l.text

abbrev pub decreases-loop-rest : goal.decreases-loop-rest
decreases-loop-rest l = length l.rest
