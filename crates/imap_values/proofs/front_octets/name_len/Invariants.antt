use Rattle.std.proofs.Common.{◌≡◌, ◌+◌, drop}
use Rattle.imap_values.specs.Spans.{in_name}
use Rattle.imap_values.specs.Spans as reading
use Rattle.imap_values.proofs.front_octets.name_len.Given as goal

abbrev pub invariant-loop-i : goal.invariant-loop-i
invariant-loop-i l = l.i + reading.span in_name (drop l.i l.bytes) ≡ reading.span in_name l.bytes
