use Rattle.std.proofs.Common.{◌∙◌, ap, List, nat_cmp}
use Rattle.std.specs.BTreeMap.{get}
use Rattle.mail_rows.specs.declared.remaining.RemovedEmail.{RemovedEmail}
use Rattle.mail_rows.specs.reading.RowPass.{row_left, row_updated}
use Rattle.mail_rows.proofs.UpdateLemmas.{rows_remain}
use Rattle.mail_rows.proofs.remaining.remaining_rows_of.Goals as goal

pub returns-clause-rows : goal.returns-clause-rows
returns-clause-rows c =
    rows_remain c.args.mirror.now.mail.folders c.args.rows.entries _ c.in_ok-gone.field-0.gone.items c.in_ok-gone.field-0.updates.items
    c.len-before.ensures.ordered c.len-after.ensures.ordered c.in_ok-gone.ensures.gone c.in_ok-gone.ensures.updates
    (λ q. c.update_rows.ensures q ∙ ap (row_updated c.in_ok-gone.field-0.updates.items q)
    (c.forget_rows.ensures q ∙ ap (λ (gs : List RemovedEmail). row_left gs q (get nat_cmp c.args.rows q)) c.as_slice.ensures.value))
