use Rattle.std.proofs.Common.{◌≡◌, ◌≤◌, drop}
use Rattle.imap_values.specs.Spans as reading
use Rattle.imap_values.proofs.front_octets.count_of.Given as goal

abbrev pub invariant-loop-c : goal.invariant-loop-c
invariant-loop-c l = record {
  same : reading.number_from l.value (drop l.c-index l.digits) ≡ reading.number_from 0 l.digits;
  most : l.value ≤ 4294967296;
}
