use Rattle.std.proofs.Common.{◌≡◌, ◌++◌, map}
use Rattle.set_order.specs.Ordered.{circle_items}
use Rattle.set_order.specs.reading.Items.{item_data}
use Rattle.set_order.specs.reading.Waiting.{left_in, entry_data}
use Rattle.set_order.proofs.order.add_circle.Given as goal

-- those so far, and those that are left, are those before and all of them
abbrev pub invariant-loop-key : goal.invariant-loop-key
invariant-loop-key l = map item_data l.items.items ++ circle_items (map entry_data l.key-iterator) ≡ map item_data l.fn.items.items ++ circle_items (left_in l.pending)
