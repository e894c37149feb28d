use Rattle.std.proofs.Common.{List, map, subst}
use Rattle.set_arguments.specs.reading.Asked.{asked_data}
use Rattle.set_order.specs.Ordered.{making}
use Rattle.set_order.specs.declared.item.Item.{Item}
use Rattle.set_order.specs.reading.Items.{item_data}
use Rattle.set_order.specs.reading.Ordering.{AddsCreations}
use Rattle.set_order.proofs.ItemLemmas.{items_of}
use Rattle.set_order.proofs.order.ordered_items.Goals as goal

pub returns : goal.returns
returns c =
    let a = asked_data c.args.asked.now in
    items_of c.args.method c.args.created.now a (map item_data c.add_made.new.items.items) (map item_data c.add_updates.new.items.items) (map item_data c.add_destroys.new.items.items)
    (subst (λ (is : List Item). AddsCreations c.args.method a.create (map item_data is) (map item_data c.add_made.new.items.items)) c.new-items.ensures.items c.in_ok-add_made.ensures)
    c.in_ok-add_updates.ensures (c.in_ok-add_destroys.ensures (making a.create) c.in_ok-making.ensures)
