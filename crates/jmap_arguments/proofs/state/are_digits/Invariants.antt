use Rattle.std.proofs.Common.{◌≡◌, drop}
use Rattle.std.specs.Str.{all_ascii_digits}
use Rattle.jmap_arguments.proofs.state.are_digits.Given as goal

-- the answer for all is that for what is left
abbrev pub invariant-loop-octet : goal.invariant-loop-octet
invariant-loop-octet l = all_ascii_digits (drop l.octet-index l.octets) ≡ all_ascii_digits l.octets
