use Rattle.std.proofs.Common.{◌≡◌, ◌<◌, List, map, true, length, ap, ◌∙◌, arith}
use Rattle.std.specs.BTreeMap.{insert_entry}
use Rattle.set_arguments.specs.declared.asked.Keyed.{Keyed}
use Rattle.set_arguments.specs.reading.Keys.{ascends, keyed_data}
use Rattle.set_order.specs.reading.Waiting.{entry_data}
use Rattle.set_order.proofs.LeftLemmas.{put_next, text_cmp}
use Rattle.set_order.proofs.pending.left_of.Goals as goal

pub loop-creation-preserved : goal.loop-creation-preserved
loop-creation-preserved c =
    let xs : List Keyed = c.deref-creation-items.result.now in
    let i = c.loop-creation.creation-index in
    let x : Keyed = c.creation-item.result in
    let es = c.loop-creation.left.entries in
    let within : i < length xs = omega (arith, c.loop-creation-test.true) in
    let ascend : ascends (map keyed_data xs) ≡ true = ap (λ (v : List Keyed). ascends (map keyed_data v)) c.deref-creation-items.ensures.value ∙ c.requires in
    ap (map entry_data) c.in_ok-insert.ensures.entries
    ∙ ap (λ (k : Keyed). map entry_data (insert_entry text_cmp es k.key k.object)) c.creation-item.is
    ∙ put_next xs i x es within ascend c.loop-creation.invariant
