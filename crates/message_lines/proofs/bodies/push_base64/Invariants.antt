use Rattle.std.proofs.Common.{◌≡◌, ◌++◌, length}
use Rattle.message_lines.specs.Bodies.{base64_lines}
use Rattle.message_lines.proofs.bodies.push_base64.Given as goal

abbrev pub invariant-loop-rest : goal.invariant-loop-rest
invariant-loop-rest l = l.text.items ++ base64_lines l.rest ≡ l.initial.text.items ++ base64_lines l.octets

abbrev pub decreases-loop-rest : goal.decreases-loop-rest
decreases-loop-rest l = length l.rest
