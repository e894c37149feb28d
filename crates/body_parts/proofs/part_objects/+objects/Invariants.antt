use Rattle.std.proofs.Common.{map, take}
use Rattle.serde_json.specs.View.{view}
use Rattle.body_parts.specs.Messages.{message_data}
use Rattle.body_parts.specs.PartObjects.{AreObjects}
use Rattle.body_parts.proofs.part_objects.+objects.Given as goal

abbrev pub invariant-part_objects-loop-part : goal.invariant-part_objects-loop-part
invariant-part_objects-loop-part l = AreObjects (message_data l.message) l.asked (take l.part-index l.parts) (map view l.objects.items)
