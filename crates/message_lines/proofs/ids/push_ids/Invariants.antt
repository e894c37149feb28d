use Rattle.std.proofs.Common.{drop}
use Rattle.message_lines.specs.Ids.{AreIdTexts}
use Rattle.message_lines.proofs.LineLemmas.{Goes}
use Rattle.message_lines.proofs.ids.push_ids.Given as goal

abbrev pub invariant-loop-id : goal.invariant-loop-id
invariant-loop-id l = Goes (AreIdTexts l.list) (AreIdTexts (drop l.id-index l.list)) l.fn.line l.fn.text l.after l.text
