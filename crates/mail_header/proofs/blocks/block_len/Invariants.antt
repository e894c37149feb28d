use Rattle.std.proofs.Common.{◌≡◌, ◌+◌, drop}
use Rattle.mail_header.specs.reading.HeaderLines.{block_len}
use Rattle.mail_header.proofs.blocks.block_len.Given as goal

abbrev pub invariant-loop-i : goal.invariant-loop-i
invariant-loop-i l = l.i + block_len (drop l.i l.text) ≡ block_len l.text
