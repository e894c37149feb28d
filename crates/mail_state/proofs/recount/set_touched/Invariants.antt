use Rattle.std.proofs.Common.{◌≡◌, ℕ, drop, nat_cmp}
use Rattle.std.specs.BTreeMap.{get}
use Rattle.mail_state.specs.reading.Recounts.{counted, rows_recounted}
use Rattle.mail_state.proofs.recount.set_touched.Given as goal

abbrev pub invariant-loop-touch : goal.invariant-loop-touch
invariant-loop-touch l =
    (q : ℕ) → rows_recounted (counted l.counts) (drop l.touch-index l.touches) q (get nat_cmp l.mailboxes q)
    ≡ rows_recounted (counted l.counts) l.touches q (get nat_cmp l.initial.mailboxes q)
