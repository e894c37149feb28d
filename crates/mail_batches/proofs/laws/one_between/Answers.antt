use Rattle.mail_batches.proofs.Between.{one_between}
use Rattle.mail_batches.proofs.laws.one_between.Goals as goal

pub returns : goal.returns
returns c = λ m n a b p q. one_between a b p.ordered q.ordered
    (λ x. (λ h. (q.each x).1 ((p.each x).0 h), λ h. (p.each x).1 ((q.each x).0 h)))
