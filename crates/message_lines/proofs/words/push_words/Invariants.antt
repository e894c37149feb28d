use Rattle.std.proofs.Common.{length}
use denote.Text.{Utf8}
use denote.Shadow.{shadow}
use Rattle.message_lines.specs.Words.{AreWordsBehind}
use Rattle.message_lines.proofs.LineLemmas.{Goes}
use Rattle.message_lines.proofs.words.push_words.Given as goal

abbrev pub invariant-loop-rest : goal.invariant-loop-rest
invariant-loop-rest l = shadow (Utf8 l.rest) × Goes (AreWordsBehind l.fn.line l.value) (AreWordsBehind l.after l.rest) l.fn.line l.fn.text l.after l.text

abbrev pub decreases-loop-rest : goal.decreases-loop-rest
decreases-loop-rest l = length l.rest
