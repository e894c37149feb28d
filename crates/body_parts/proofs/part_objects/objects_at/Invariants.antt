use Rattle.std.proofs.Common.{map, take}
use Rattle.serde_json.specs.View.{view}
use Rattle.body_parts.specs.Messages.{message_data}
use Rattle.body_parts.specs.PartObjects.{AreObjects}
use Rattle.body_parts.specs.reading.LeafLists.{parts_of, parts_at}
use Rattle.body_parts.proofs.part_objects.objects_at.Given as goal

abbrev pub invariant-loop-number : goal.invariant-loop-number
invariant-loop-number l = AreObjects (message_data l.message) l.asked (parts_at (parts_of l.leaves) (take l.number-index l.numbers)) (map view l.objects.items)
