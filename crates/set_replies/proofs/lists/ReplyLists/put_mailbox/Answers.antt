use Rattle.std.proofs.Common.{◌≡◌, ℕ, List, Option, Some, None, option_map, sym, ap, ◌∙◌}
use Rattle.std.proofs.lemmas.Result.{on_ok_weaker}
use Rattle.serde_json.specs.Data.{Data, Members, put}
use Rattle.serde_json.specs.View.{members_view}
use Rattle.change_list.specs.Advance.{row_at}
use Rattle.mail_maps.specs.Serve.{mailbox_of}
use Rattle.mail_maps.specs.declared.row.MailboxRow.{MailboxRow}
use Rattle.read_methods.specs.Mailboxes.{mailbox_data, mailbox_properties}
use Rattle.served_maps.specs.Past.{served}
use Rattle.set_replies.specs.Lists.{Lists}
use Rattle.set_replies.specs.reading.Listing.{lists_data}
use Rattle.set_replies.proofs.ListLemmas.{served_at}
use Rattle.set_replies.proofs.lists.ReplyLists.put_mailbox.Goals as goal

pub returns-in-None : goal.returns-in-None
returns-in-None c =
    let none : row_at (served mailbox_of c.args.state.now.rows.mailboxes) c.args.number ≡ None =
    served_at c.args.state.now.rows.mailboxes c.args.number ∙ ap (λ (o : Option MailboxRow). option_map mailbox_of o) (sym c.in-None.ensures) in
    rw none c.put_refusal.ensures

pub returns-in_ok-value-in-Some : goal.returns-in_ok-value-in-Some
returns-in_ok-value-in-Some c =
    let some : row_at (served mailbox_of c.args.state.now.rows.mailboxes) c.args.number ≡ Some (mailbox_of c.in-Some.mailbox.now) =
    served_at c.args.state.now.rows.mailboxes c.args.number ∙ ap (λ (o : Option MailboxRow). option_map mailbox_of o) (sym c.in-Some.ensures) in
    let made : Data = mailbox_data mailbox_properties (c.args.number, mailbox_of c.in-Some.mailbox.now) in
    let before : Members = members_view c.args.self.now.created.entries in
    rw some
    (on_ok_weaker c.put.result (λ is.
    ap (λ (ms : Members). let l : Lists = record (lists_data c.args.self.now) { created = ms } in l)
    (is ∙ ap (λ (d : Data). put c.key.result.now d before) c.in_ok-value-in-Some.ensures ∙ ap (λ (k : List ℕ). put k made before) c.key.ensures)) c.put.ensures.ok)
