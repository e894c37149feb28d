use Rattle.std.proofs.Common.{ℕ, List, Option, Some, option_map, sym, ap, ◌∙◌}
use Rattle.jmap_arguments.specs.Ids.{email_letter, id_text, mailbox_letter}
use Rattle.mail_maps.specs.Serve.{ServedMailbox, mailbox_of}
use Rattle.mail_maps.specs.declared.row.EmailRow.{EmailRow}
use Rattle.mail_maps.specs.declared.row.MailboxRow.{MailboxRow}
use Rattle.set_replies.proofs.ListLemmas.{served_at}
use Rattle.set_replies.proofs.RowLemmas.{mark_found, mark_missed}
use Rattle.set_replies.proofs.created.id_made.Goals as goal

abbrev email_id : Option (ℕ × EmailRow) → Option (List ℕ)
email_id found = option_map (λ (e : ℕ × EmailRow). id_text email_letter e.0) found

abbrev mailbox_id : ℕ → Option ServedMailbox → Option (List ℕ)
mailbox_id n found = option_map (λ (b : ServedMailbox). id_text mailbox_letter n) found

abbrev some_text : List ℕ → Option (List ℕ)
some_text text = Some text

pub returns-in-None : goal.returns-in-None
returns-in-None c = λ apart.
    rw c.in-Made.is (sym (ap email_id (mark_missed c.args.state.now.rows.numbered.rows c.in-Made.mark apart c.in-None.ensures)))

pub returns-in_ok-id_text-in-Some : goal.returns-in_ok-id_text-in-Some
returns-in_ok-id_text-in-Some c = λ apart.
    rw c.in-Made.is
    (ap some_text c.in_ok-id_text-in-Some.ensures
    ∙ sym (ap email_id (mark_found c.args.state.now.rows.numbered.rows c.in-Made.mark c.in-Some.row.now apart c.in-Some.ensures)))

pub returns-in-None-mailbox : goal.returns-in-None-mailbox
returns-in-None-mailbox c = λ apart.
    let n = c.in-MadeMailbox.number in
    rw c.in-MadeMailbox.is
    (sym (ap (mailbox_id n) (served_at c.args.state.now.rows.mailboxes n ∙ ap (λ (o : Option MailboxRow). option_map mailbox_of o) (sym c.in-None-mailbox.ensures))))

pub returns-in_ok-id_text-in-Some-mailbox : goal.returns-in_ok-id_text-in-Some-mailbox
returns-in_ok-id_text-in-Some-mailbox c = λ apart.
    let n = c.in-MadeMailbox.number in
    rw c.in-MadeMailbox.is
    (ap some_text c.in_ok-id_text-in-Some-mailbox.ensures
    ∙ sym (ap (mailbox_id n) (served_at c.args.state.now.rows.mailboxes n ∙ ap (λ (o : Option MailboxRow). option_map mailbox_of o) (sym c.in-Some-mailbox.ensures))))
