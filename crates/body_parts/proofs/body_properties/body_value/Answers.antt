use Rattle.std.proofs.Common.{rules, ◌≡◌, Bool}
use Rattle.serde_json.specs.Data.{boolean}
use Rattle.serde_json.specs.View.{view}
use Rattle.serde_json.specs.declared.value.Value.{Bool as Truth, the_lemmas}
use Rattle.email_properties.specs.Wanted.{body_asked}
use Rattle.body_parts.specs.Messages.{message_data}
use Rattle.body_parts.specs.reading.LeafLists.{parts_of}
use Rattle.body_parts.proofs.BodyLemmas.{attached_of, attachments_of, html_of, preview_of, reading_of, structure_of, text_of, values_of}
use Rattle.body_parts.proofs.ObjectLemmas.{message_within}
use Rattle.body_parts.proofs.body_properties.body_value.Goals as goal

view-Bool : (t : Bool) → view (Truth t) ≡ boolean t
view-Bool t = search (rules, the_lemmas)

pub values_value-requires : goal.values_value-requires
values_value-requires c =
    let body = c.args.body.now in
    message_within body.message.now.octets.now body.root.now (parts_of body.leaves.now) c.requires.are_leaves c.requires.within

pub preview_value-requires : goal.preview_value-requires
preview_value-requires c =
    let body = c.args.body.now in
    message_within body.message.now.octets.now body.root.now (parts_of body.leaves.now) c.requires.are_leaves c.requires.within

pub returns-in_ok-part_object-in-BodyStructure : goal.returns-in_ok-part_object-in-BodyStructure
returns-in_ok-part_object-in-BodyStructure c =
    let body = c.args.body.now in
    structure_of (message_data body.message.now) (body_asked c.args.asked.now) (reading_of body c.requires) c.args.property.now _ _ c.in-BodyStructure.is
    c.as_slice-parts.ensures.value c.in_ok-part_object-in-BodyStructure.ensures

pub returns-in_ok-values_value-in-BodyValues : goal.returns-in_ok-values_value-in-BodyValues
returns-in_ok-values_value-in-BodyValues c =
    let body = c.args.body.now in
    values_of (message_data body.message.now) (body_asked c.args.asked.now) (reading_of body c.requires) c.args.property.now _ c.in-BodyValues.is
    c.in_ok-values_value-in-BodyValues.ensures

pub returns-in_ok-list_value-in-TextBody : goal.returns-in_ok-list_value-in-TextBody
returns-in_ok-list_value-in-TextBody c =
    let body = c.args.body.now in
    text_of (message_data body.message.now) (body_asked c.args.asked.now) (reading_of body c.requires) c.args.property.now _ _ _ c.in-TextBody.is c.as_slice-parts.ensures.value
    c.as_slice.ensures c.in_ok-list_value-in-TextBody.ensures

pub returns-in_ok-list_value-in-HtmlBody : goal.returns-in_ok-list_value-in-HtmlBody
returns-in_ok-list_value-in-HtmlBody c =
    let body = c.args.body.now in
    html_of (message_data body.message.now) (body_asked c.args.asked.now) (reading_of body c.requires) c.args.property.now _ _ _ c.in-HtmlBody.is c.as_slice-parts.ensures.value
    c.as_slice-in-HtmlBody.ensures c.in_ok-list_value-in-HtmlBody.ensures

pub returns-in_ok-list_value-in-Attachments : goal.returns-in_ok-list_value-in-Attachments
returns-in_ok-list_value-in-Attachments c =
    let body = c.args.body.now in
    attachments_of (message_data body.message.now) (body_asked c.args.asked.now) (reading_of body c.requires) c.args.property.now _ _ _ c.in-Attachments.is
    c.as_slice-parts.ensures.value c.as_slice-in-Attachments.ensures c.in_ok-list_value-in-Attachments.ensures

pub returns-in-HasAttachment : goal.returns-in-HasAttachment
returns-in-HasAttachment c =
    let body = c.args.body.now in
    attached_of (message_data body.message.now) (body_asked c.args.asked.now) (reading_of body c.requires) c.args.property.now _ c.in-HasAttachment.is
    (view-Bool body.lists.now.has_attachment)

pub returns-in_ok-preview_value-in-Preview : goal.returns-in_ok-preview_value-in-Preview
returns-in_ok-preview_value-in-Preview c =
    let body = c.args.body.now in
    preview_of (message_data body.message.now) (body_asked c.args.asked.now) (reading_of body c.requires) c.args.property.now _ _ c.in-Preview.is c.as_slice-in-Preview.ensures
    c.in_ok-preview_value-in-Preview.ensures
