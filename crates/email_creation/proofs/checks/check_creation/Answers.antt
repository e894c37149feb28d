use Rattle.std.proofs.Common.{subst}
use Rattle.serde_json.specs.Data.{Members}
use Rattle.serde_json.specs.View.{members_view}
use Rattle.mail_drafts.specs.declared.error.BuildError.{BuildError}
use Rattle.draft_reading.specs.Readings.{IsReadFailure}
use Rattle.email_creation.proofs.CheckLemmas.{first_is, drafted_is}
use Rattle.email_creation.proofs.checks.check_creation.Goals as goal

pub returns-in_ok-with_draft-in-Ok : goal.returns-in_ok-with_draft-in-Ok
returns-in_ok-with_draft-in-Ok c = λ g given.
    let ms : Members = members_view c.args.properties.now.entries in
    drafted_is g c.args.uploads.now ms c.mailbox_asked-asked.result c.in-Ok.draft c.in_ok-with_draft-in-Ok.field-0 c.in-Ok.ensures.draft (c.mailbox_asked-asked.ensures g given)
    c.in_ok-with_draft-in-Ok.ensures

pub returns-in_ok-first_wrong-in-Err-BadValue : goal.returns-in_ok-first_wrong-in-Err-BadValue
returns-in_ok-first_wrong-in-Err-BadValue c = λ g given.
    let ms : Members = members_view c.args.properties.now.entries in
    first_is g c.args.uploads.now ms c.in-Err-BadValue.property c.mailbox_asked-asked.result c.in_ok-first_wrong-in-Err-BadValue.field-0
    (subst (λ (e : BuildError). IsReadFailure c.args.uploads.now ms e) c.in-Err-BadValue.field-0-is c.in-Err-BadValue.ensures.refused) (c.mailbox_asked-asked.ensures g given)
    c.in_ok-first_wrong-in-Err-BadValue.ensures
