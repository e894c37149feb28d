use Rattle.std.proofs.Common.{rules, arith, ◌<◌, ◌+◌, ◌++◌, ◌∷◌, ◌∙◌, ℕ, Bool, false, List, [], length, map, drop, refl, sym, ap, subst, Err}
use Rattle.std.proofs.lemmas.List.{take_all, map-append}
use Rattle.gate_world.specs.Tape.{Adds}
use Rattle.gate_world.proofs.Joins.{none, widen}
use Rattle.set_jobs.specs.declared.done.Done.{Done}
use Rattle.set_order.specs.Ordered as spec
use Rattle.set_order.specs.declared.item.Item.{Item}
use Rattle.set_order.specs.reading.Items.{item_data}
use Rattle.set_calls.specs.declared.call.CallEnd.{CallEnd}
use Rattle.set_calls.specs.reading.Calling.{done_data}
use Rattle.gate_changes.proofs.Course.{AllCame, AreTaken, Imported, adds_end, adds_more, adds_out, imported_all, left_after, next_after, none_imported, taken_more}
use Rattle.gate_changes.proofs.importing.import_items.Goals as goal

pub loop-item-init : goal.loop-item-init
loop-item-init g c =
    record {
      told = none _ _ (subst (λ (done : List (Item × Done)). Imported c.args.uploads.now c.args.created.now c.args.making.now c.args.machine.now c.args.client
          (g.L.Taped.faults c.args.link.now) (map done_data done) false c.args.machine.now c.args.client (g.L.Taped.faults c.args.link.now) []) (sym c.new-done.ensures.items)
          (none_imported c.args.uploads.now c.args.created.now c.args.making.now c.args.machine.now c.args.client (g.L.Taped.faults c.args.link.now)));
      items = ap (λ (done : List (Item × Done)). map (λ (e : spec.Item × Done). e.0) (map done_data done)) c.new-done.ensures.items;
      ready = c.requires;
      alone = search rules;
      hidden = refl;
    }

pub returns-in-Err-clause-run : goal.returns-in-Err-clause-run
returns-in-Err-clause-run g c =
    let l = c.loop-item in
    let items : List Item = c.args.items.now in
    let i : ℕ = l.item-index in
    let within : i < length items = omega (arith, c.loop-item-test.true) in
    subst (λ (e : CallEnd). Adds (g.L.Taped.tape c.args.link.now) (g.L.Taped.tape c.import_item-came.new.link)
    (AllCame c.args.uploads.now c.args.created.now c.args.making.now (map item_data items) c.args.machine.now c.args.client (g.L.Taped.faults c.args.link.now) (Err e)
    c.import_item-came.new.machine c.import_item-came.result.1 (g.L.Taped.faults c.import_item-came.new.link))) (sym c.end_after.ensures)
    (adds_end c.args.uploads.now c.args.created.now c.args.making.now c.args.machine.now c.args.client (g.L.Taped.faults c.args.link.now) (map done_data l.done.items) l.made l.machine
    c.import_item-came.new.machine l.client c.import_item-came.result.1 (g.L.Taped.faults l.link) (g.L.Taped.faults c.import_item-came.new.link) (item_data c.item-item.result)
    c.import_item-came.result.0 l.invariant.told c.import_item-came.ensures.run (map item_data items) (map item_data (drop (i + 1) items)) c.in-Err.end c.in-Err.is
    (next_after items i c.item-item.result (map done_data l.done.items) within c.item-item.is l.invariant.items))

pub returns-in-Err-push-clause-run : goal.returns-in-Err-push-clause-run
returns-in-Err-push-clause-run g c =
    let l = c.loop-item in
    let items : List Item = c.args.items.now in
    let i : ℕ = l.item-index in
    let within : i < length items = omega (arith, c.loop-item-test.true) in
    let item : spec.Item = item_data c.item-item.result in
    adds_out c.args.uploads.now c.args.created.now c.args.making.now c.args.machine.now c.args.client (g.L.Taped.faults c.args.link.now) (map done_data l.done.items) l.made l.machine
    c.import_item-came.new.machine l.client c.import_item-came.result.1 (g.L.Taped.faults l.link) (g.L.Taped.faults c.import_item-came.new.link) item c.import_item-came.result.0
    l.invariant.told c.import_item-came.ensures.run (map item_data items) (map item_data (drop (i + 1) items)) c.in-Ok.one c.in-Ok.is
    (left_after items (i + 1) (map done_data l.done.items ++ (item, c.in-Ok.one) ∷ [])
    (taken_more items i c.item-item.result (map done_data l.done.items) c.in-Ok.one within c.item-item.is l.invariant.items))

pub loop-item-preserved : goal.loop-item-preserved
loop-item-preserved g c =
    let l = c.loop-item in
    let items : List Item = c.args.items.now in
    let i : ℕ = l.item-index in
    let within : i < length items = omega (arith, c.loop-item-test.true) in
    let item : spec.Item = item_data c.item-item.result in
    let done_is =
    ap (λ (done : List (Item × Done)). map done_data done) c.in-Ok-push.ensures.items ∙ map-append done_data l.done.items ((c.item-item.result, c.in-Ok.one) ∷ []) in
    record {
      told =
          subst (λ (done : List (spec.Item × Done)). Adds (g.L.Taped.tape c.args.link.now) (g.L.Taped.tape c.import_item-came.new.link)
          (Imported c.args.uploads.now c.args.created.now c.args.making.now c.args.machine.now c.args.client (g.L.Taped.faults c.args.link.now) done c.made_after-made.result
          c.import_item-came.new.machine c.import_item-came.result.1 (g.L.Taped.faults c.import_item-came.new.link))) (sym done_is)
          (subst (λ (made : Bool). Adds (g.L.Taped.tape c.args.link.now) (g.L.Taped.tape c.import_item-came.new.link)
          (Imported c.args.uploads.now c.args.created.now c.args.making.now c.args.machine.now c.args.client (g.L.Taped.faults c.args.link.now)
          (map done_data l.done.items ++ (item, c.in-Ok.one) ∷ []) made c.import_item-came.new.machine c.import_item-came.result.1 (g.L.Taped.faults c.import_item-came.new.link)))
          (sym c.made_after-made.ensures)
          (adds_more c.args.uploads.now c.args.created.now c.args.making.now c.args.machine.now c.args.client (g.L.Taped.faults c.args.link.now) (map done_data l.done.items) l.made
          l.machine c.import_item-came.new.machine l.client c.import_item-came.result.1 (g.L.Taped.faults l.link) (g.L.Taped.faults c.import_item-came.new.link) item
          c.import_item-came.result.0 l.invariant.told c.import_item-came.ensures.run c.in-Ok.one c.in-Ok.is));
      items = subst (λ (done : List (spec.Item × Done)). AreTaken items (i + 1) done) (sym done_is)
          (taken_more items i c.item-item.result (map done_data l.done.items) c.in-Ok.one within c.item-item.is l.invariant.items);
      ready = c.import_item-came.ensures.ready;
      alone = search rules;
      hidden = c.import_item-came.ensures.hidden ∙ l.invariant.hidden;
    }

pub returns-clause-run : goal.returns-clause-run
returns-clause-run g c =
    let l = c.loop-item in
    let items : List Item = c.args.items.now in
    widen _ l.invariant.told (λ es so.
    imported_all c.args.uploads.now c.args.created.now c.args.making.now c.args.machine.now c.args.client (g.L.Taped.faults c.args.link.now) (map item_data items) l.done
    (l.invariant.items ∙ ap (λ (is : List Item). map item_data is) (take_all l.item-index items (omega (arith, c.loop-item-test.false)))) so)
