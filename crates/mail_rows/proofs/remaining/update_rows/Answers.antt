use Rattle.std.proofs.Common.{◌∙◌, List, ap, sym, nat_cmp}
use Rattle.std.specs.BTreeMap.{get}
use Rattle.std.specs.Vec.Iter.{into_iter_items}
use Rattle.mail_rows.specs.declared.remaining.Update.{Update}
use Rattle.mail_rows.specs.reading.RowPass.{row_updated}
use Rattle.mail_rows.proofs.UpdateLemmas.{update_taken, updates_end}
use Rattle.mail_rows.proofs.remaining.update_rows.Goals as goal

pub loop-update-init : goal.loop-update-init
loop-update-init c = λ q. ap (λ (us : List Update). row_updated us q (get nat_cmp c.args.rows.now q)) c.into_iter-update-iterator.ensures.into_iter_gives.0

pub loop-update-preserved : goal.loop-update-preserved
loop-update-preserved c = λ q. update_taken (into_iter_items c.loop-update.update-iterator) (into_iter_items c.next.new.self) c.in-Some.update q _ _ _
    c.in-Some.ensures.steps.0 (c.update_row.ensures q) (c.loop-update.invariant q)

pub returns : goal.returns
returns c = λ q. updates_end (into_iter_items c.loop-update.update-iterator) q _ _
    (sym c.loop-update.update-iterator.rest.ok.0 ∙ c.in-None.ensures.steps.0) (c.loop-update.invariant q)
