use Rattle.std.proofs.Common.{◌≡◌, ◌++◌, drop, map}
use Rattle.message_lines.specs.Subjects.{shown_octet}
use Rattle.message_lines.proofs.subjects.shown_octets.Given as goal

abbrev pub invariant-loop-octet : goal.invariant-loop-octet
invariant-loop-octet l = l.shown.items ++ map shown_octet (drop l.octet-index l.octet-items) ≡ map shown_octet l.octet-items
