use Rattle.std.proofs.Common.{◌≡◌, ◌++◌, List, length}
use Rattle.httparse.specs.Grammar.{LineEnd, print_blank}
use Rattle.http_service.proofs.cut_target.after_blank_lines.Given as goal

abbrev pub invariant-lines : goal.invariant-lines
invariant-lines l = (ends : List LineEnd) × (l.octets ≡ print_blank ends ++ l.rest)

abbrev pub decreases-lines : goal.decreases-lines
decreases-lines l = length l.rest
