use Rattle.std.proofs.Common.{nat_cmp, take}
use Rattle.std.specs.BTreeSet.{contains}
use Rattle.mail_batches.specs.reading.Adding.{AnyOf, IsLost, Notes}
use Rattle.mail_batches.proofs.mail_differences.note_lost.Given as goal

abbrev pub invariant-loop-message : goal.invariant-loop-message
invariant-loop-message l = Notes (contains nat_cmp l.initial.marks) (contains nat_cmp l.marks) (λ q. AnyOf (IsLost l.other.mail q) (take l.message-index l.messages))
