use Rattle.std.proofs.Common.{List, subst}
use Rattle.std.proofs.lemmas.List.{take_all}
use Rattle.std.specs.List.{filter}
use Rattle.serde_json.specs.View.{members_view}
use Rattle.email_properties.specs.EmailProperties.{is_of_body}
use Rattle.email_properties.specs.Wanted.{body_asked}
use Rattle.email_properties.specs.declared.email_property.EmailProperty.{EmailProperty}
use Rattle.body_parts.specs.BodyProperties.{PutsBodyProperty}
use Rattle.body_parts.specs.Messages.{message_data}
use Rattle.body_parts.specs.Steps.{InTurn}
use Rattle.body_parts.specs.reading.StepsIf.{StepIf}
use Rattle.body_parts.proofs.StepLemmas.{turn_filter, turn_more}
use Rattle.body_parts.proofs.body_properties.put_properties.Goals as goal

pub loop-property-preserved : goal.loop-property-preserved
loop-property-preserved c =
    let Step = StepIf is_of_body (PutsBodyProperty (message_data c.args.body.now.message.now) (body_asked c.args.wanted.now.body)) in
    let before = members_view c.loop-property.members.entries in
    let after = members_view c.put_property.new.members.entries in
    turn_more Step c.deref-property-items.result.now c.loop-property.property-index c.property-item.result (members_view c.args.members.now.entries) before after
    c.loop-property-test.true c.loop-property.invariant (subst (λ (p : EmailProperty). Step p before after) c.property-item.is c.in_ok-put_property.ensures)

pub returns : goal.returns
returns c =
    let Puts = PutsBodyProperty (message_data c.args.body.now.message.now) (body_asked c.args.wanted.now.body) in
    let items = c.deref-property-items.result.now in
    let before = members_view c.args.members.now.entries in
    let after = members_view c.loop-property.members.entries in
    let P : List EmailProperty → Type 0 = λ ps. InTurn (StepIf is_of_body Puts) ps before after in
    let Q : List EmailProperty → Type 0 = λ ps. InTurn Puts (filter is_of_body ps) before after in
    subst Q c.deref-property-items.ensures.value
    (turn_filter Puts is_of_body items before after (subst P (take_all c.loop-property.property-index items c.loop-property-test.false) c.loop-property.invariant))
