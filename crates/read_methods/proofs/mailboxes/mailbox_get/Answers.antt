use Rattle.serde_json.specs.View.{view}
use Rattle.jmap_arguments.specs.Ids.{mailbox_letter}
use Rattle.jmap_arguments.specs.State.{state_text}
use Rattle.jmap_arguments.proofs.GetLemmas.{whole_answered, whole_from}
use Rattle.served_maps.specs.Past.{served}
use Rattle.mail_maps.specs.Serve.{mailbox_of}
use Rattle.read_methods.specs.Mailboxes.{mailboxes_asked, mailbox_objects, mailboxes_answer}
use Rattle.read_methods.proofs.OverHistory.{over_history}
use Rattle.read_methods.proofs.WholeLemmas.{whole_mailboxes}
use Rattle.read_methods.proofs.mailboxes.mailbox_get.Goals as goal

pub returns-clause-exact : goal.returns-clause-exact
returns-clause-exact c = λ h is.
    over_history mailbox_of c.args.state.now.rows.mailboxes c.args.state.now.lists.mailbox h h.mailboxes c.args.state.now.epoch
    (λ text rows. mailboxes_answer text rows (view c.args.arguments.now))
    c.answer.result is.epoch is.mailboxes c.answer.ensures

pub returns-clause-whole : goal.returns-clause-whole
returns-clause-whole c =
    let rows = served mailbox_of c.args.state.now.rows.mailboxes in
    let text = state_text (record { epoch = c.args.state.now.epoch; place = c.args.state.now.lists.mailbox.place }) in
    whole_from c.answer.result (mailboxes_answer text rows (view c.args.arguments.now)) c.answer.ensures
    (whole_answered mailbox_letter text (mailbox_objects rows) (mailboxes_asked (view c.args.arguments.now)) (whole_mailboxes rows))
