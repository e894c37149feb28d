use Rattle.std.proofs.Common.{nat_cmp, take, false}
use Rattle.std.specs.BTreeSet.{contains}
use Rattle.mail_batches.specs.reading.Adding.{AnyOf, HasOther, Notes}
use Rattle.mail_batches.proofs.mail_differences.other_marks.Given as goal

abbrev pub invariant-loop-held : goal.invariant-loop-held
invariant-loop-held l = Notes (λ _. false) (contains nat_cmp l.marks) (λ q. AnyOf (HasOther l.before.mail q) (take l.held-index l.held-items))
