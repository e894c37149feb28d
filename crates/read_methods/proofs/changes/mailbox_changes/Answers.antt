use Rattle.serde_json.specs.View.{view}
use Rattle.jmap_arguments.specs.Ids.{mailbox_letter}
use Rattle.mail_maps.specs.Serve.{mailbox_of}
use Rattle.mail_state.specs.State.{IsStateOf}
use Rattle.read_methods.specs.Changes.{updated_properties}
use Rattle.read_methods.specs.Replies.{UpdatesMailboxes}
use Rattle.read_methods.proofs.ChangeLemmas.{over_history, up_to_date, wholly, under}
use Rattle.read_methods.proofs.WholeLemmas.{names_whole}
use Rattle.read_methods.proofs.changes.mailbox_changes.Goals as goal

pub returns-clause-exact : goal.returns-clause-exact
returns-clause-exact c = λ h is.
    over_history mailbox_of c.args.state.now.rows.mailboxes mailbox_letter c.args.state.now.epoch h.epoch c.args.state.now.lists.mailbox h.mailboxes updated_properties
    (view c.args.arguments.now) c.changes_with_names.result is.epoch is.mailboxes c.changes_with_names.ensures

pub returns-clause-copies : goal.returns-clause-copies
returns-clause-copies c =
    under (λ h. IsStateOf h c.args.state.now) (λ h value. UpdatesMailboxes h (view c.args.arguments.now) (view value)) c.changes_with_names.result
    (λ h is. up_to_date mailbox_letter h.epoch h.mailboxes updated_properties (view c.args.arguments.now) c.changes_with_names.result (returns-clause-exact c h is))

pub returns-clause-whole : goal.returns-clause-whole
returns-clause-whole c =
    wholly mailbox_letter c.args.state.now.epoch c.args.state.now.lists.mailbox updated_properties (view c.args.arguments.now)
    c.changes_with_names.result names_whole c.changes_with_names.ensures
