use Rattle.std.proofs.Common.{nat_cmp, take, false}
use Rattle.std.specs.BTreeSet.{contains}
use Rattle.mail_batches.specs.reading.Adding.{AnyOf, HasLost, Notes}
use Rattle.mail_batches.proofs.mail_differences.lost_marks.Given as goal

abbrev pub invariant-loop-held : goal.invariant-loop-held
invariant-loop-held l = Notes (λ _. false) (contains nat_cmp l.marks) (λ q. AnyOf (HasLost l.other.mail q) (take l.held-index l.held-items))
