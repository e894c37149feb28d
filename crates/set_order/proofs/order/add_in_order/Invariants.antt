use Rattle.std.proofs.Common.{map, length}
use Rattle.set_arguments.specs.reading.Keys.{keyed_data}
use Rattle.set_order.specs.reading.Items.{item_data}
use Rattle.set_order.specs.reading.Waiting.{IsPending, left_in}
use Rattle.set_order.proofs.MakingLemmas.{AllInOrder}
use Rattle.set_order.proofs.order.add_in_order.Given as goal

abbrev pub invariant-creations : goal.invariant-creations
invariant-creations l = record {
  pending : IsPending l.pending (left_in l.pending);
  orders : AllInOrder (map keyed_data l.create.items) (map item_data l.fn.items.items) (map item_data l.items.items) (left_in l.pending);
}

abbrev pub decreases-creations : goal.decreases-creations
decreases-creations l = length l.pending.left.entries
