use Rattle.std.proofs.Common.{◌∙◌, Some, ap}
use Rattle.std.specs.Option.{option_copied}
use Rattle.serde_json.specs.View.{members_view}
use Rattle.serde_json.specs.Written.{has_float}
use Rattle.serde_json.proofs.Views.{view-Object}
use Rattle.email_properties.specs.Wanted.{email_asked}
use Rattle.body_parts.specs.Messages.{message_data}
use Rattle.email_objects.specs.EmailObjects.{without_body}
use Rattle.email_objects.specs.Facts.{message_facts}
use Rattle.email_objects.proofs.WholeLemmas.{object_whole}
use Rattle.email_objects.proofs.objects.parsed_value.Goals as goal

pub returns-clause-whole : goal.returns-clause-whole
returns-clause-whole c =
    let told = c.in_ok-members.ensures in
    let m = message_data c.args.message.now in
    ap has_float (view-Object c.put_body.new.members)
    ∙ object_whole (message_facts (option_copied c.args.blob_id) m told.fields) (without_body c.as_slice.result.now) (Some m) (email_asked c.args.wanted.now)
    (members_view c.in_ok-members.members.entries)
    (members_view c.put_body.new.members.entries) told.are_told c.in_ok-put_body.ensures
