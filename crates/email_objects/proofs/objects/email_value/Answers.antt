use Rattle.std.proofs.Common.{◌∙◌, ◌∷◌, ap}
use Rattle.serde_json.specs.View.{members_view}
use Rattle.serde_json.specs.Written.{has_float}
use Rattle.serde_json.proofs.Views.{view-Object}
use Rattle.email_properties.specs.Wanted.{email_asked}
use Rattle.email_properties.specs.declared.email_property.EmailProperty.TheVariants.{Id}
use Rattle.email_objects.specs.EmailObjects.{without_body}
use Rattle.email_objects.specs.Facts.{row_facts}
use Rattle.email_objects.proofs.WholeLemmas.{object_whole}
use Rattle.email_objects.proofs.objects.email_value.Goals as goal

pub returns-clause-whole : goal.returns-clause-whole
returns-clause-whole c =
    let told = c.in_ok-members.ensures in
    ap has_float (view-Object c.put_row_body.new.members)
    ∙ object_whole (row_facts c.args.row.now told.fields) (Id ∷ without_body c.as_slice.result.now) _ (email_asked c.args.wanted.now) (members_view c.in_ok-members.members.entries)
    (members_view c.put_row_body.new.members.entries) told.are_told c.in_ok-put_row_body.ensures
