use Rattle.std.proofs.Common.{take}
use Rattle.serde_json.specs.View.{members_view}
use Rattle.body_parts.specs.Steps.{InTurn}
use Rattle.body_parts.specs.reading.StepsIf.{StepIf}
use Rattle.email_objects.specs.EmailObjects.{needs_no_body}
use Rattle.email_objects.specs.Properties.{PutsEmailProperty}
use Rattle.email_objects.specs.reading.Views.{facts_data}
use Rattle.email_objects.proofs.properties.put_properties.Given as goal

abbrev pub invariant-loop-property : goal.invariant-loop-property
invariant-loop-property l =
    InTurn (StepIf needs_no_body (PutsEmailProperty (facts_data l.facts))) (take l.property-index l.properties) (members_view l.fn.members.entries) (members_view l.members.entries)
