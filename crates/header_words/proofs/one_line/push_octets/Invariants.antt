use Rattle.std.proofs.Common.{◌≡◌, ◌++◌, drop}
use Rattle.std.specs.List.{flat_map}
use Rattle.header_words.specs.OneLine.{line_octet}
use Rattle.header_words.proofs.one_line.push_octets.Given as goal

abbrev pub invariant-loop-octet : goal.invariant-loop-octet
invariant-loop-octet l = l.line.items ++ flat_map line_octet (drop l.octet-index l.octets) ≡ l.initial.line.items ++ flat_map line_octet l.octets
