use Rattle.std.proofs.Common.{◌≡◌, ◌<◌, List, map, length, sym, ap, ◌∙◌, arith}
use Rattle.set_arguments.specs.declared.asked.Keyed.{Keyed}
use Rattle.set_arguments.specs.reading.Keys.{keyed_data}
use Rattle.set_order.specs.reading.Waiting.{entry_data, ready_in, waiting_in}
use Rattle.set_order.proofs.PlacingLemmas.{placed_more, all_placed, none_placed}
use Rattle.set_order.proofs.pending.Pending.all.Goals as goal

pub loop-creation-init : goal.loop-creation-init
loop-creation-init c = record {
  left = c.in_ok-left.ensures ∙ sym (ap (λ (xs : List Keyed). map keyed_data xs) c.deref-creation-items.ensures.value);
  placed = none_placed (map keyed_data c.deref-creation-items.result.now) c.new.result c.new-2.result c.new.ensures.empty c.new-2.ensures.empty;
}

pub loop-creation-preserved : goal.loop-creation-preserved
loop-creation-preserved c =
    let xs : List Keyed = c.deref-creation-items.result.now in
    let within : c.loop-creation.creation-index < length xs = omega (arith, c.loop-creation-test.true) in
    record {
      left = ap (λ l. map entry_data l.entries) c.in_ok-place.ensures.left ∙ c.loop-creation.invariant.left;
      placed = placed_more (map keyed_data xs) (map entry_data c.loop-creation.pending.left.entries) xs c.loop-creation.creation-index c.creation-item.result
          (ready_in c.loop-creation.pending) (ready_in c.place.new.self) (waiting_in c.loop-creation.pending) (waiting_in c.place.new.self)
          within c.creation-item.is c.loop-creation.invariant.left c.loop-creation.invariant.placed c.in_ok-place.ensures.placed;
    }

pub returns : goal.returns
returns c =
    let xs : List Keyed = c.deref-creation-items.result.now in
    let same : xs ≡ c.args.create.now.items = c.deref-creation-items.ensures.value in
    record {
      left_is = c.loop-creation.invariant.left ∙ ap (λ (ks : List Keyed). map keyed_data ks) same;
      in_order = c.requires;
      are = all_placed xs c.args.create.now.items c.loop-creation.creation-index (ready_in c.loop-creation.pending) (waiting_in c.loop-creation.pending)
          (omega (arith, c.loop-creation-test.false)) same c.loop-creation.invariant.placed;
    }
