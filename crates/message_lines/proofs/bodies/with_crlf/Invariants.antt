use Rattle.std.proofs.Common.{◌≡◌, ◌++◌, drop, false}
use Rattle.message_lines.specs.Bodies.{with_cr}
use Rattle.message_lines.proofs.bodies.with_crlf.Given as goal

abbrev pub invariant-loop-octet : goal.invariant-loop-octet
invariant-loop-octet l = l.text.items ++ with_cr l.behind_cr (drop l.octet-index l.value) ≡ with_cr false l.value
