use Rattle.std.proofs.Common.{◌≡◌, ℕ, nat_cmp}
use Rattle.std.specs.BTreeMap.{get}
use Rattle.std.specs.Vec.Iter.{into_iter_items}
use Rattle.mail_rows.specs.reading.RowPass.{row_updated}
use Rattle.mail_rows.proofs.remaining.update_rows.Given as goal

abbrev pub invariant-loop-update : goal.invariant-loop-update
invariant-loop-update l =
    (q : ℕ) → row_updated (into_iter_items l.update-iterator) q (get nat_cmp l.rows q) ≡ row_updated l.fn.updates.items q (get nat_cmp l.initial.rows q)
