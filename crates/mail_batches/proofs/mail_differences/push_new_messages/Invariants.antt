use Rattle.mail_batches.specs.reading.Adding.{OfMark, new_item}
use Rattle.mail_batches.proofs.AddingLemmas.{AddsSome}
use Rattle.mail_batches.proofs.mail_differences.push_new_messages.Given as goal

abbrev pub invariant-loop-mark : goal.invariant-loop-mark
invariant-loop-mark l = AddsSome (OfMark new_item l.after.mail) l.marks.keys l.mark-iterator l.initial.items.items l.items.items
