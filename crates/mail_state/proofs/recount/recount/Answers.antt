use Rattle.std.proofs.Common.{◌≡◌, ◌∙◌, ap, List, ℕ, nat_cmp}
use Rattle.std.specs.BTreeMap.{get}
use Rattle.change_list.specs.declared.entries.Entry.{Entry}
use Rattle.mail_maps.specs.Mailboxes.{counts_in}
use Rattle.mail_state.specs.reading.Recounts.{all_recounted, counted, rows_recounted}
use Rattle.mail_state.proofs.RecountLemmas.{boxes_set, counted_alike, touches_to}
use Rattle.mail_state.proofs.recount.recount.Goals as goal

pub returns-clause-mailboxes : goal.returns-clause-mailboxes
returns-clause-mailboxes c =
    boxes_set (counted c.in_ok-counts.counts) c.args.old.entries _ c.len-before.ensures.ordered c.len-after.ensures.ordered
    (λ q. c.set_touched.ensures q
    ∙ ap (λ (es : List Entry). rows_recounted (counted c.in_ok-counts.counts) es q (get nat_cmp c.args.old q)) (c.as_slice.ensures.value ∙ c.in_ok-touches.ensures))
    ∙ counted_alike (counted c.in_ok-counts.counts) (counts_in c.args.emails.now.entries) c.in_ok-counts.ensures c.args.old.entries

pub returns-clause-touches : goal.returns-clause-touches
returns-clause-touches c =
    touches_to (counted c.in_ok-counts.counts) c.args.old.entries _ c.in_ok-touches.touches.items c.len-before.ensures.ordered c.in_ok-touches.ensures
    (boxes_set (counted c.in_ok-counts.counts) c.args.old.entries _ c.len-before.ensures.ordered c.len-after.ensures.ordered
    (λ q. c.set_touched.ensures q
    ∙ ap (λ (es : List Entry). rows_recounted (counted c.in_ok-counts.counts) es q (get nat_cmp c.args.old q)) (c.as_slice.ensures.value ∙ c.in_ok-touches.ensures)))
