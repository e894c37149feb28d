use Rattle.std.proofs.Common.{true}
use Rattle.jmap_arguments.specs.Ids.{email_letter, mailbox_letter}
use Rattle.served_types.specs.States.{type_state}
use Rattle.query_arguments.specs.Asked.{email_query_asked, mailbox_query_asked}
use Rattle.query_core.specs.Lists as lists
use Rattle.query_core.specs.Lists.{IsEmailList, IsMailboxList}
use Rattle.query_core.proofs.OneAnswer.{one_answer, one_email_list, one_mailbox_list}
use Rattle.query_core.proofs.laws.one_query_answer.Goals as goal

pub returns-clause-emails : goal.returns-clause-emails
returns-clause-emails c = λ h d r s x y.
    one_answer email_letter (type_state h h.emails) (λ q. lists.reads_record_alone q.list) (λ q. IsEmailList h.emails.now q.list) (email_query_asked d)
    (λ q. one_email_list h.emails.now q.list) r s x y

pub returns-clause-mailboxes : goal.returns-clause-mailboxes
returns-clause-mailboxes c = λ h d r s x y.
    one_answer mailbox_letter (type_state h h.mailboxes) (λ q. true) (λ q. IsMailboxList h.mailboxes.now q.list) (mailbox_query_asked d)
    (λ q. one_mailbox_list h.mailboxes.now q.list) r s x y
