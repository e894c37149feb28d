use Rattle.std.proofs.Common.{take}
use Rattle.serde_json.specs.View.{members_view}
use Rattle.email_properties.specs.EmailProperties.{is_of_body}
use Rattle.email_properties.specs.Wanted.{body_asked}
use Rattle.body_parts.specs.BodyProperties.{PutsBodyProperty}
use Rattle.body_parts.specs.Messages.{message_data}
use Rattle.body_parts.specs.Steps.{InTurn}
use Rattle.body_parts.specs.reading.StepsIf.{StepIf}
use Rattle.body_parts.proofs.body_properties.put_properties.Given as goal

abbrev pub invariant-loop-property : goal.invariant-loop-property
invariant-loop-property l =
    InTurn (StepIf is_of_body (PutsBodyProperty (message_data l.body.message.now) (body_asked l.wanted.body))) (take l.property-index l.property-items)
    (members_view l.fn.members.entries) (members_view l.members.entries)
