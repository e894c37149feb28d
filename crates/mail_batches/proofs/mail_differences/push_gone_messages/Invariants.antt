use Rattle.mail_batches.specs.reading.Adding.{GoneMessage}
use Rattle.mail_batches.proofs.AddingLemmas.{AddsSome}
use Rattle.mail_batches.proofs.mail_differences.push_gone_messages.Given as goal

abbrev pub invariant-loop-mark : goal.invariant-loop-mark
invariant-loop-mark l = AddsSome GoneMessage l.marks.keys l.mark-iterator l.initial.items.items l.items.items
