use Rattle.std.proofs.Common.{◌≡◌, ◌∷◌, take}
use Rattle.std.specs.List.{flat_map}
use Rattle.mail_batches.specs.Batches.{written}
use Rattle.mail_batches.specs.Items.{item_text}
use Rattle.mail_batches.proofs.batches.write_batch.Given as goal

abbrev pub invariant-loop-item : goal.invariant-loop-item
invariant-loop-item l = l.octets.items ≡ written ∷ 1 ∷ flat_map item_text (take l.item-index l.fn.items)
