use Rattle.std.proofs.Common.{◌≡◌, List, ◌++◌, ◌∷◌, [], map, Some, None, refl, ap, ◌∙◌}
use Rattle.std.proofs.lemmas.List.{map-append}
use Rattle.set_arguments.specs.reading.Keys.{keyed_data}
use Rattle.set_order.specs.Ordered as spec
use Rattle.set_order.specs.Ordered.{next_of, without_key}
use Rattle.set_order.specs.declared.item.Item.{Item}
use Rattle.set_order.specs.declared.item.Item.TheVariants.{Create}
use Rattle.set_order.specs.reading.Items.{item_data}
use Rattle.set_order.specs.reading.Waiting.{IsPending, left_in}
use Rattle.set_order.proofs.MakingLemmas.{ended, its_own, none_yet, went}
use Rattle.set_order.proofs.order.add_in_order.Goals as goal

pub creations-init : goal.creations-init
creations-init c = record {
  pending = its_own c.in_ok-pending.pending (map keyed_data c.args.create.now.items) c.in_ok-pending.ensures;
  orders = none_yet c.in_ok-pending.pending (map keyed_data c.args.create.now.items) (map item_data c.args.items.now.items) c.in_ok-pending.ensures;
}

pub creations-preserved : goal.creations-preserved
creations-preserved c =
    let p = c.creations.pending in
    let creation = c.in-Some.creation in
    let left : IsPending c.next.new.self (without_key creation.key.now (left_in p)) =
    rw c.in-Some.is at (c.in_ok-creation.ensures.left (left_in p) c.creations.invariant.pending) in
    let first : Some (keyed_data creation) ≡ next_of (left_in p) = rw c.in-Some.is at (c.in_ok-creation.ensures.first (left_in p) c.creations.invariant.pending) in
    let items : map item_data c.push.new.self.items ≡ map item_data c.creations.items.items ++ spec.Create creation.key.now (keyed_data creation).1 ∷ [] =
    ap (λ (is : List Item). map item_data is) c.in_ok-push.ensures.items ∙ map-append item_data c.creations.items.items (Create creation ∷ []) in
    record {
      pending = its_own c.next.new.self (without_key creation.key.now (left_in p)) left;
      orders = went (map keyed_data c.args.create.now.items) (map item_data c.args.items.now.items) (map item_data c.creations.items.items) (map item_data c.push.new.self.items)
          (left_in p) (left_in c.next.new.self) (keyed_data creation) c.creations.invariant.orders first left.left_is items;
    }

pub returns : goal.returns
returns c =
    let p = c.creations.pending in
    let is = c.in_default.is in
    let first : None ≡ next_of (left_in p) = rw is at (c.in_ok-creation.ensures.first (left_in p) c.creations.invariant.pending) in
    let left : left_in c.next.new.self ≡ left_in p = (rw is at c.in_ok-creation.ensures.none) refl in
    ended (map keyed_data c.args.create.now.items) (map item_data c.args.items.now.items) (map item_data c.creations.items.items) (map item_data c.add_circle.new.items.items)
    (left_in p) (left_in c.next.new.self) c.creations.invariant.orders first left c.in_ok-add_circle.ensures
