-- Items as the code has them.
use Rattle.set_order.specs.Ordered as spec
use Rattle.set_order.specs.declared.item.Item.{Item}
use Rattle.set_order.specs.declared.item.Item.TheVariants.{Create, Circle, Update, Destroy}
use Rattle.set_arguments.specs.reading.Keys.{keyed_data}

abbrev pub item_data : Item → spec.Item
item_data (Create k) = spec.Create (keyed_data k).0 (keyed_data k).1
item_data (Circle key) = spec.Circle key.now
item_data (Update k) = spec.Update (keyed_data k).0 (keyed_data k).1
item_data (Destroy text) = spec.Destroy text.now
