-- Items as the code has them.
use Rattle.set_jobs.specs.declared.done.Done.{Done}
use Rattle.set_order.specs.Ordered as spec
use Rattle.set_order.specs.declared.item.Item.{Item}
use Rattle.set_order.specs.reading.Items.{item_data}

-- an item and what it came to
abbrev pub done_data : Item × Done → spec.Item × Done
done_data e = (item_data e.0, e.1)
