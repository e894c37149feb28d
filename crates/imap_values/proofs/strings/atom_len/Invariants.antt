use Rattle.std.proofs.Common.{◌≡◌, ◌+◌, drop}
use Rattle.imap_types.specs.Octets.{is_atom}
use Rattle.imap_values.specs.Spans as spans
use Rattle.imap_values.proofs.strings.atom_len.Given as goal

abbrev pub invariant-loop-i : goal.invariant-loop-i
invariant-loop-i l = l.i + spans.span is_atom (drop l.i l.bytes) ≡ spans.span is_atom l.bytes
