use Rattle.std.proofs.Common.{◌≡◌, ℕ, drop, nat_cmp}
use Rattle.std.specs.BTreeMap.{get}
use Rattle.mail_rows.specs.reading.RowPass.{row_left}
use Rattle.mail_rows.proofs.remaining.forget_rows.Given as goal

abbrev pub invariant-loop-email : goal.invariant-loop-email
invariant-loop-email l = (q : ℕ) → row_left (drop l.email-index l.gone) q (get nat_cmp l.rows q) ≡ row_left l.gone q (get nat_cmp l.initial.rows q)
