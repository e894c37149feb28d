use Rattle.std.proofs.Common.{◌≡◌, ℕ, drop, nat_cmp}
use Rattle.std.specs.BTreeMap.{get}
use Rattle.mail_rows.specs.reading.Indexes.{number_left}
use Rattle.mail_rows.proofs.indexes.forget_marks.Given as goal

abbrev pub invariant-loop-email : goal.invariant-loop-email
invariant-loop-email l = (q : ℕ) → number_left (drop l.email-index l.gone) q (get nat_cmp l.marks q) ≡ number_left l.gone q (get nat_cmp l.initial.marks q)
