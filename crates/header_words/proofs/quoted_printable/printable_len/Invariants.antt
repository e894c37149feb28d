use Rattle.std.proofs.Common.{◌+◌, ◌≤◌, length}
use Rattle.header_words.proofs.PrintableLemmas.{Counted}
use Rattle.header_words.proofs.quoted_printable.printable_len.Given as goal

abbrev pub invariant-loop-rest : goal.invariant-loop-rest
invariant-loop-rest l = record {
  counted : Counted l.len l.rest l.text;
  within : l.len + length l.rest ≤ length l.text;
}

abbrev pub decreases-loop-rest : goal.decreases-loop-rest
decreases-loop-rest l = length l.rest
