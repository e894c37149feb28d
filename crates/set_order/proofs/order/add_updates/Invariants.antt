use Rattle.std.proofs.Common.{◌≡◌, ◌++◌, map, take}
use Rattle.set_order.specs.Ordered.{updated_items}
use Rattle.set_order.specs.reading.Items.{item_data}
use Rattle.set_arguments.specs.reading.Keys.{keyed_data}
use Rattle.set_order.proofs.order.add_updates.Given as goal

-- those before, and those so far
abbrev pub invariant-loop-change : goal.invariant-loop-change
invariant-loop-change l = map item_data l.items.items ≡ map item_data l.fn.items.items ++ updated_items (map keyed_data (take l.change-index l.change-items))
