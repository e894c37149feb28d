use Rattle.std.proofs.Common.{◌≡◌, ◌+◌, drop}
use Rattle.imap_types.specs.Octets.{is_word}
use Rattle.imap_values.specs.Spans as reading
use Rattle.imap_values.proofs.front_octets.word_len.Given as goal

abbrev pub invariant-loop-i : goal.invariant-loop-i
invariant-loop-i l = l.i + reading.span is_word (drop l.i l.bytes) ≡ reading.span is_word l.bytes
