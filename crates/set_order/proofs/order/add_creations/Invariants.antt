use Rattle.std.proofs.Common.{◌≡◌, ◌++◌, map, take}
use Rattle.set_order.specs.Ordered.{created_items}
use Rattle.set_order.specs.reading.Items.{item_data}
use Rattle.set_arguments.specs.reading.Keys.{keyed_data}
use Rattle.set_order.proofs.order.add_creations.Given as goal

-- those before, and those so far
abbrev pub invariant-loop-creation : goal.invariant-loop-creation
invariant-loop-creation l = map item_data l.items.items ≡ map item_data l.fn.items.items ++ created_items (map keyed_data (take l.creation-index l.creation-items))
