use Rattle.change_list.specs.History.{entries_of}
use Rattle.query_arguments.specs.Asked.{email_query_changes_asked, mailbox_query_changes_asked}
use Rattle.query_core.specs.Lists.{IsEmailList, IsMailboxList}
use Rattle.query_changes.specs.Replies.{AnswersEmails, AnswersMailboxes, EmailChangesMeant, MailboxChangesMeant, email_calculable, mailbox_calculable}
use Rattle.query_changes.proofs.OneAnswer.{one_of, one_reply}
use Rattle.query_changes.proofs.laws.one_query_changes_answer.Goals as goal

pub returns-clause-emails : goal.returns-clause-emails
returns-clause-emails c = λ h d r s few a b.
    one_reply (AnswersEmails h) (email_query_changes_asked d)
    (λ q. one_of 101 h.epoch (entries_of h.emails.touches) email_calculable (λ (q : EmailChangesMeant). IsEmailList h.emails.now q.list) few q
    (λ x y. c.one_email_list.ensures h.emails.now q.list x y)) r s a b

pub returns-clause-mailboxes : goal.returns-clause-mailboxes
returns-clause-mailboxes c = λ h d r s few a b.
    one_reply (AnswersMailboxes h) (mailbox_query_changes_asked d)
    (λ q. one_of 109 h.epoch (entries_of h.mailboxes.touches) mailbox_calculable (λ (q : MailboxChangesMeant). IsMailboxList h.mailboxes.now q.list) few q
    (λ x y. c.one_mailbox_list.ensures h.mailboxes.now q.list x y)) r s a b
