use Rattle.std.proofs.Common.{ℕ, List, drop, map}
use Rattle.set_order.specs.Ordered.{stands_for}
use Rattle.set_order.specs.reading.Creating.{HasKeys}
use Rattle.set_order.specs.reading.Items.{item_data}
use Rattle.set_order.proofs.DestroyLemmas.{AreDestroyed}
use Rattle.set_order.proofs.order.add_destroys.Given as goal

abbrev pub invariant-loop-text : goal.invariant-loop-text
invariant-loop-text l = (keys : List (List ℕ)) → HasKeys l.making keys →
    AreDestroyed (stands_for keys l.created) (map (λ t. t.now) l.text-items) (map (λ t. t.now) (drop l.text-index l.text-items)) (map (λ t. t.now) l.seen.keys)
    (map item_data l.fn.items.items) (map item_data l.items.items)
