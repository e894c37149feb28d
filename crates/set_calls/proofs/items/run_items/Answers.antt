use Rattle.std.proofs.Common.{rules, arith, ◌≡◌, ◌<◌, ◌+◌, ◌++◌, ◌∷◌, ◌∙◌, ℕ, List, [], length, map, take, drop, get_or, refl, sym, ap, subst, Err}
use Rattle.std.proofs.lemmas.List.{take_all, take_more, take-append-drop, map-append}
use Rattle.std.proofs.lemmas.Result.{err_from_is_err_and}
use Rattle.gate_world.specs.Tape.{Adds}
use Rattle.gate_world.proofs.Joins.{join, none, widen}
use Rattle.imap_client.specs.LinkLife.{ClientState}
use Rattle.set_jobs.specs.declared.done.Done.{Done}
use Rattle.set_order.specs.Ordered as spec
use Rattle.set_order.specs.declared.item.Item.{Item}
use Rattle.set_order.specs.reading.Items.{item_data}
use Rattle.set_calls.specs.Calls.{items_of}
use Rattle.set_calls.specs.declared.call.CallEnd.{CallEnd}
use Rattle.set_calls.specs.declared.call.CallEnd.TheVariants as ends
use Rattle.set_calls.specs.reading.Calling.{done_data}
use Rattle.set_calls.proofs.Steps.{SoFar, all_done, begins, counts_join, counts_same, next_same, one_more, stops, wants, wants_after}
use Rattle.set_calls.proofs.items.run_items.Goals as goal

-- the items before one, that one, and those after it
around : (items : List Item) (i : ℕ) (item : Item) → i < length items → item ≡ get_or items i item
    → map item_data (take i items) ++ item_data item ∷ map item_data (drop (i + 1) items) ≡ map item_data items
around items i item within is =
    sym (map-append item_data (take i items) (item ∷ drop (i + 1) items))
    ∙ ap (λ (is : List Item). map item_data is) (split items i item within is)
  where
    split : (items : List Item) (i : ℕ) (item : Item) → i < length items → item ≡ get_or items i item → take i items ++ item ∷ drop (i + 1) items ≡ items
    split items i item within is =
        sym (append_one (take i items) item (drop (i + 1) items)) ∙ ap (λ (is : List Item). is ++ drop (i + 1) items) (sym (now items i item within is)) ∙ take-append-drop (i + 1) items
      where
        append_one : (xs : List Item) (x : Item) (ys : List Item) → (xs ++ x ∷ []) ++ ys ≡ xs ++ x ∷ ys
        append_one [] x ys = refl
        append_one (y ∷ xs) x ys = ap (λ (l : List Item). y ∷ l) (append_one xs x ys)

        now : (items : List Item) (i : ℕ) (item : Item) → i < length items → item ≡ get_or items i item → take (i + 1) items ≡ take i items ++ item ∷ []
        now items i item within is = take_more items i item within ∙ ap (λ (x : Item). take i items ++ x ∷ []) (sym is)

-- one more of those that are done
done_more : (done : List (Item × Done)) (items : List Item) (i : ℕ) (item : Item) (came : Done) → i < length items → item ≡ get_or items i item
    → items_of (map done_data done) ≡ map item_data (take i items) → items_of (map done_data (done ++ (item, came) ∷ [])) ≡ map item_data (take (i + 1) items)
done_more done items i item came within is so =
    ap items_of (map-append done_data done ((item, came) ∷ []))
    ∙ map-append (λ (e : spec.Item × Done). e.0) (map done_data done) ((item_data item, came) ∷ [])
    ∙ ap (λ (l : List spec.Item). l ++ item_data item ∷ []) so
    ∙ sym (map-append item_data (take i items) (item ∷ []))
    ∙ ap (λ (l : List Item). map item_data l) (sym (take_more items i item within ∙ ap (λ (x : Item). take i items ++ x ∷ []) (sym is)))

-- those that aren't done follow
left_after : (done : List (Item × Done)) (items : List Item) (i : ℕ) → items_of (map done_data done) ≡ map item_data (take i items)
    → items_of (map done_data done) ++ map item_data (drop i items) ≡ map item_data items
left_after done items i so =
    ap (λ (l : List spec.Item). l ++ map item_data (drop i items)) so ∙ sym (map-append item_data (take i items) (drop i items))
    ∙ ap (λ (l : List Item). map item_data l) (take-append-drop i items)

pub returns-in_err-done-clause-tape : goal.returns-in_err-done-clause-tape
returns-in_err-done-clause-tape g c =
    let end = err_from_is_err_and c.from_residual.result c.from_residual.ensures.1 in
    none _ _ (wants c.args.call.now c.args.client.now c.args.mirror.now (g.L.Taped.faults c.args.link.now).link (map item_data c.args.items.now)
    (map item_data c.args.items.now) [] c.args.client.now c.args.mirror.now c.new-made.result _ (g.L.Taped.faults c.args.link.now).link c.from_residual.result [] refl
    (end.1 ∙ ap (λ (e : CallEnd). Err e) end.2)
    (begins c.args.call.now c.args.client.now c.args.mirror.now (g.L.Taped.faults c.args.link.now).link c.new-made.result c.new-made.ensures))

pub loop-item-init : goal.loop-item-init
loop-item-init g c =
    record {
      told = none _ _ (subst (λ (done : List (Item × Done)). SoFar c.args.call.now c.args.client.now c.args.mirror.now (g.L.Taped.faults c.args.link.now).link
          c.args.client.now c.args.mirror.now c.new-made.result _ done (g.L.Taped.faults c.args.link.now).link []) (sym c.in_ok-done.ensures.items)
          (begins c.args.call.now c.args.client.now c.args.mirror.now (g.L.Taped.faults c.args.link.now).link c.new-made.result c.new-made.ensures));
      items = ap (λ (done : List (Item × Done)). items_of (map done_data done)) c.in_ok-done.ensures.items;
      counts = counts_same c.args.mirror.now;
      next = next_same c.args.mirror.now.mail c.each_is_mail.ensures;
      idle = λ dead. (refl, refl);
      alone = search rules;
      hidden = refl;
    }

pub returns-in_err-came-clause-tape : goal.returns-in_err-came-clause-tape
returns-in_err-came-clause-tape g c =
    let end = err_from_is_err_and c.from_residual-in_err-came.result c.from_residual-in_err-came.ensures.1 in
    let l = c.loop-item in
    let items : List Item = c.args.items.now in
    let i : ℕ = l.item-index in
    let within : i < length items = omega (arith, c.loop-item-test.true) in
    let all : items_of (map done_data l.done.items) ++ item_data c.item-item.result ∷ map item_data (drop (i + 1) items) ≡ map item_data items =
    ap (λ (is : List spec.Item). is ++ item_data c.item-item.result ∷ map item_data (drop (i + 1) items)) l.invariant.items ∙ around items i c.item-item.result within c.item-item.is in
    join _ l.invariant.told c.in_err-came.ensures.tape (λ es fs so says. stops c.args.call.now c.args.client.now c.args.mirror.now (g.L.Taped.faults c.args.link.now).link
    (map item_data items) (map item_data (drop (i + 1) items)) l.done.items (item_data c.item-item.result) c.in_err-came.field-0.0 (Err c.in_err-came.field-0.0)
    c.from_residual-in_err-came.result l.client l.mirror l.made l.changed c.take_item.new.client c.take_item.new.mirror c.take_item.new.changed (g.L.Taped.faults l.link).link
    (g.L.Taped.faults c.take_item.new.link).link es fs all refl (end.1 ∙ ap (λ (e : CallEnd). Err e) end.2) so says)

pub returns-in_err-note_made-clause-tape : goal.returns-in_err-note_made-clause-tape
returns-in_err-note_made-clause-tape g c =
    let end = err_from_is_err_and c.from_residual-in_err-note_made.result c.from_residual-in_err-note_made.ensures.1 in
    let l = c.loop-item in
    let items : List Item = c.args.items.now in
    let i : ℕ = l.item-index in
    let within : i < length items = omega (arith, c.loop-item-test.true) in
    let all : items_of (map done_data (l.done.items ++ (c.item-item.result, c.in_ok-came.came) ∷ [])) ++ map item_data (drop (i + 1) items) ≡ map item_data items =
    left_after (l.done.items ++ (c.item-item.result, c.in_ok-came.came) ∷ []) items (i + 1) (done_more l.done.items items i c.item-item.result c.in_ok-came.came within c.item-item.is l.invariant.items) in
    join _ l.invariant.told c.in_ok-came.ensures.tape (λ es fs so says. wants_after c.args.call.now c.args.client.now c.args.mirror.now (g.L.Taped.faults c.args.link.now).link
    (map item_data items) (map item_data (drop (i + 1) items)) l.done.items c.item-item.result c.in_ok-came.came l.client l.mirror l.made l.changed c.take_item.new.client
    c.take_item.new.mirror c.take_item.new.changed (g.L.Taped.faults l.link).link (g.L.Taped.faults c.take_item.new.link).link c.from_residual-in_err-note_made.result es fs all
    (end.1 ∙ ap (λ (e : CallEnd). Err e) end.2) so says)

pub returns-in-Err-clause-tape : goal.returns-in-Err-clause-tape
returns-in-Err-clause-tape g c =
    let l = c.loop-item in
    let items : List Item = c.args.items.now in
    let i : ℕ = l.item-index in
    let within : i < length items = omega (arith, c.loop-item-test.true) in
    let all : items_of (map done_data (l.done.items ++ (c.item-item.result, c.in_ok-came.came) ∷ [])) ++ map item_data (drop (i + 1) items) ≡ map item_data items =
    left_after (l.done.items ++ (c.item-item.result, c.in_ok-came.came) ∷ []) items (i + 1) (done_more l.done.items items i c.item-item.result c.in_ok-came.came within c.item-item.is l.invariant.items) in
    join _ l.invariant.told c.in_ok-came.ensures.tape (λ es fs so says. wants_after c.args.call.now c.args.client.now c.args.mirror.now (g.L.Taped.faults c.args.link.now).link
    (map item_data items) (map item_data (drop (i + 1) items)) l.done.items c.item-item.result c.in_ok-came.came l.client l.mirror l.made l.changed c.take_item.new.client
    c.take_item.new.mirror c.take_item.new.changed (g.L.Taped.faults l.link).link (g.L.Taped.faults c.take_item.new.link).link (Err ends.Memory) es fs all refl so says)

pub loop-item-preserved : goal.loop-item-preserved
loop-item-preserved g c =
    let l = c.loop-item in
    let items : List Item = c.args.items.now in
    let i : ℕ = l.item-index in
    let within : i < length items = omega (arith, c.loop-item-test.true) in
    record {
      told = subst (λ (done : List (Item × Done)). Adds (g.L.Taped.tape c.args.link.now) (g.L.Taped.tape c.take_item.new.link) (SoFar c.args.call.now
          c.args.client.now c.args.mirror.now (g.L.Taped.faults c.args.link.now).link c.take_item.new.client c.take_item.new.mirror c.note_made.new.made c.take_item.new.changed done
          (g.L.Taped.faults c.take_item.new.link).link)) (sym c.in-Ok.ensures.items)
          (join _ l.invariant.told c.in_ok-came.ensures.tape (λ es fs so says. one_more c.args.call.now c.args.client.now c.args.mirror.now
          (g.L.Taped.faults c.args.link.now).link l.done.items c.item-item.result c.in_ok-came.came l.client l.mirror l.made c.note_made.new.made l.changed c.take_item.new.client
          c.take_item.new.mirror c.take_item.new.changed (g.L.Taped.faults l.link).link (g.L.Taped.faults c.take_item.new.link).link es fs c.in_ok-note_made.ensures so says));
      items = ap (λ (done : List (Item × Done)). items_of (map done_data done)) c.in-Ok.ensures.items
          ∙ done_more l.done.items items i c.item-item.result c.in_ok-came.came within c.item-item.is l.invariant.items;
      counts = counts_join l.invariant.counts c.take_item.ensures.counts;
      next = c.next_mail_joins.ensures _ _ _ l.invariant.next c.take_item.ensures.next;
      idle = λ dead.
          let was = l.invariant.idle dead in
          let now = c.take_item.ensures.idle (ap (λ (s : ClientState). s.alive) was.0 ∙ dead) in
          (now.0 ∙ was.0, now.1 ∙ was.1);
      alone = search rules;
      hidden = search rules;
    }

pub returns-clause-tape : goal.returns-clause-tape
returns-clause-tape g c =
    let l = c.loop-item in
    let items : List Item = c.args.items.now in
    let all : items_of (map done_data l.done.items) ≡ map item_data items =
    l.invariant.items ∙ ap (λ (is : List Item). map item_data is) (take_all l.item-index items (omega (arith, c.loop-item-test.false))) in
    widen _ l.invariant.told (λ es so. all_done c.args.call.now c.args.client.now c.args.mirror.now (g.L.Taped.faults c.args.link.now).link (map item_data items) l.done
    l.client l.mirror l.made l.changed (g.L.Taped.faults l.link).link es all so)
