use Rattle.std.proofs.Common.{◌≡◌, drop}
use Rattle.imap_values.specs.Spans.{count_from}
use Rattle.imap_values.proofs.front_octets.long_of.Given as goal

abbrev pub invariant-loop-c : goal.invariant-loop-c
invariant-loop-c l = count_from 9223372036854775807 l.value (drop l.c-index l.digits) ≡ count_from 9223372036854775807 0 l.digits
