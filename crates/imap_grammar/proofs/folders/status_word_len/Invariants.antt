use Rattle.std.proofs.Common.{◌≡◌, ◌+◌, drop}
use Rattle.imap_types.specs.Octets.{is_status_word}
use Rattle.imap_values.specs.Spans as spans
use Rattle.imap_grammar.proofs.folders.status_word_len.Given as goal

abbrev pub invariant-loop-i : goal.invariant-loop-i
invariant-loop-i l = l.i + spans.span is_status_word (drop l.i l.bytes) ≡ spans.span is_status_word l.bytes
