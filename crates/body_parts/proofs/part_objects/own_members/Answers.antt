use Rattle.std.proofs.Common.{subst}
use Rattle.serde_json.specs.Data.{no_members}
use Rattle.serde_json.specs.View.{members_view}
use Rattle.email_properties.specs.declared.part_property.PartProperty.{PartProperty}
use Rattle.body_parts.specs.Messages.{message_data}
use Rattle.body_parts.specs.PartObjects.{PutsProperty}
use Rattle.body_parts.proofs.StepLemmas.{turn_more}
use Rattle.body_parts.proofs.part_objects.own_members.Goals as goal

pub loop-property-preserved : goal.loop-property-preserved
loop-property-preserved c =
    let m = message_data c.args.message.now in
    let part = c.args.part.now in
    let before = members_view c.loop-property.members.entries in
    let after = members_view c.put_property.new.members.entries in
    turn_more (PutsProperty m part) c.args.asked.now c.loop-property.property-index c.property-item.result no_members before after c.loop-property-test.true
    c.loop-property.invariant (subst (λ (p : PartProperty). PutsProperty m part p before after) c.property-item.is c.in_ok-put_property.ensures)
