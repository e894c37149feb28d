use Rattle.std.proofs.Common.{◌≡◌, drop}
use Rattle.imap_values.specs.Spans as reading
use Rattle.imap_values.proofs.front_octets.all_digits.Given as goal

abbrev pub invariant-loop-c : goal.invariant-loop-c
invariant-loop-c l = reading.all_digits (drop l.c-index l.bytes) ≡ reading.all_digits l.bytes
