use Rattle.std.proofs.Common.{List, subst, take_all}
use Rattle.serde_json.specs.Data.{Members}
use Rattle.serde_json.specs.View.{members_view}
use Rattle.email_properties.specs.declared.email_property.EmailProperty.{EmailProperty}
use Rattle.body_parts.specs.Steps.{InTurn}
use Rattle.body_parts.specs.reading.StepsIf.{StepIf}
use Rattle.body_parts.proofs.StepLemmas.{turn_more, turn_filter}
use Rattle.email_objects.specs.EmailObjects.{needs_no_body}
use Rattle.email_objects.specs.Properties.{PutsEmailProperty}
use Rattle.email_objects.specs.reading.Views.{facts_data}
use Rattle.email_objects.proofs.properties.put_properties.Goals as goal

pub loop-property-preserved : goal.loop-property-preserved
loop-property-preserved c =
    let Step : EmailProperty → Members → Members → Type 0 = StepIf needs_no_body (PutsEmailProperty (facts_data c.args.facts.now)) in
    let before = members_view c.loop-property.members.entries in
    let after = members_view c.put_property.new.members.entries in
    turn_more Step c.args.properties.now c.loop-property.property-index c.property-item.result (members_view c.args.members.now.entries) before after
    c.loop-property-test.true c.loop-property.invariant (subst (λ (p : EmailProperty). Step p before after) c.property-item.is c.in_ok-put_property.ensures)

pub returns : goal.returns
returns c =
    let Puts : EmailProperty → Members → Members → Type 0 = PutsEmailProperty (facts_data c.args.facts.now) in
    let before = members_view c.args.members.now.entries in
    let after = members_view c.loop-property.members.entries in
    turn_filter Puts needs_no_body c.args.properties.now before after
    (subst (λ (ps : List EmailProperty). InTurn (StepIf needs_no_body Puts) ps before after)
    (take_all c.loop-property.property-index c.args.properties.now c.loop-property-test.false)
    c.loop-property.invariant)
