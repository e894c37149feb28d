use Rattle.std.proofs.Common.{◌≡◌, ◌++◌, drop}
use Rattle.imap_types.specs.Lines.{spaced}
use Rattle.store_responses.proofs.strings.push_spaced.Given as goal

abbrev pub invariant-loop-word : goal.invariant-loop-word
invariant-loop-word l = l.out.items ++ spaced (drop l.word-index l.words) ≡ l.fn.out.items ++ spaced l.words
