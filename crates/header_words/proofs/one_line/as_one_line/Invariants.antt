use Rattle.std.proofs.Common.{◌≡◌, ◌++◌, length}
use Rattle.header_words.specs.OneLine.{one_line}
use Rattle.header_words.proofs.one_line.as_one_line.Given as goal

abbrev pub invariant-loop-rest : goal.invariant-loop-rest
invariant-loop-rest l = l.line.items ++ one_line l.rest ≡ one_line l.text

abbrev pub decreases-loop-rest : goal.decreases-loop-rest
decreases-loop-rest l = length l.rest
