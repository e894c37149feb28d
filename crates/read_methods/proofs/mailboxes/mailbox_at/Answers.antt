use Rattle.serde_json.specs.View.{view}
use Rattle.mail_maps.specs.Serve.{mailbox_of}
use Rattle.read_methods.specs.Mailboxes.{mailbox_data}
use Rattle.read_methods.proofs.ObjectLemmas.{none_at, some_at}
use Rattle.read_methods.proofs.mailboxes.mailbox_at.Goals as goal

pub returns-in-None : goal.returns-in-None
returns-in-None c = none_at mailbox_of (mailbox_data c.args.wanted.now) c.args.state.now.rows.mailboxes c.args.number c.in-None.ensures

pub returns-in_ok-mailbox_value-in-Some : goal.returns-in_ok-mailbox_value-in-Some
returns-in_ok-mailbox_value-in-Some c =
    some_at mailbox_of (mailbox_data c.args.wanted.now) c.args.state.now.rows.mailboxes c.args.number c.in-Some.mailbox.now
    (view c.in_ok-mailbox_value-in-Some.field-0) c.in-Some.ensures c.in_ok-mailbox_value-in-Some.ensures
