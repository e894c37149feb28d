use Rattle.std.proofs.Common.{nat_cmp, take}
use Rattle.std.specs.BTreeSet.{contains}
use Rattle.mail_batches.specs.reading.Adding.{AnyOf, IsOtherAt, Notes}
use Rattle.mail_batches.proofs.mail_differences.note_other.Given as goal

abbrev pub invariant-loop-message : goal.invariant-loop-message
invariant-loop-message l = Notes (contains nat_cmp l.initial.marks) (contains nat_cmp l.marks) (λ q. AnyOf (IsOtherAt l.before.mail l.folder q) (take l.message-index l.messages))
