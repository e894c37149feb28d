use Rattle.std.proofs.Common.{◌≡◌, length}
use Rattle.serde_json.specs.View.{items_view, members_view}
use Rattle.set_patches.specs.Values.{same_items, same_members}
use Rattle.set_patches.proofs.values.+same.Given as goal

-- the answer for all is that for what is left, of which there is as much on both sides
abbrev pub invariant-same_items_of-loop-item : goal.invariant-same_items_of-loop-item
invariant-same_items_of-loop-item l = record {
  same : same_items (items_view l.items.items) (items_view l.others.items) ≡ same_items (items_view l.item-iterator.a.rest.now) (items_view l.item-iterator.b.rest.now);
  lengths : length l.item-iterator.a.rest.now ≡ length l.item-iterator.b.rest.now;
}

abbrev pub invariant-same_members_of-loop-key : goal.invariant-same_members_of-loop-key
invariant-same_members_of-loop-key l = record {
  same : same_members (members_view l.members.entries) (members_view l.others.entries) ≡ same_members (members_view l.key-iterator.a) (members_view l.key-iterator.b);
  lengths : length l.key-iterator.a ≡ length l.key-iterator.b;
}
