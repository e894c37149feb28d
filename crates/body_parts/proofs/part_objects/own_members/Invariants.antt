use Rattle.std.proofs.Common.{take}
use Rattle.serde_json.specs.Data.{no_members}
use Rattle.serde_json.specs.View.{members_view}
use Rattle.body_parts.specs.Messages.{message_data}
use Rattle.body_parts.specs.PartObjects.{PutsProperties}
use Rattle.body_parts.proofs.part_objects.own_members.Given as goal

abbrev pub invariant-loop-property : goal.invariant-loop-property
invariant-loop-property l = PutsProperties (message_data l.message) l.part (take l.property-index l.asked) no_members (members_view l.members.entries)
