use Rattle.std.proofs.Common.{◌≡◌, ◌+◌, max, fold, take}
use Rattle.small_mail.proofs.mail.StoredMail.next_validity.Given as goal

abbrev pub invariant-loop-one : goal.invariant-loop-one
invariant-loop-one l = l.greatest + 1 ≡ fold (λ n u. max n (u.validity + 1)) 1 (take l.one-index l.self.uses)
