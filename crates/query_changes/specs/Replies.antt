-- What Email/queryChanges and Mailbox/queryChanges answer over what has become of the mail (RFC 8621 sections 4.5 and 2.4).
use Rattle.std.specs.Prelude.{Bool, true, Result}
use Rattle.serde_json.specs.Data.{Data}
use Rattle.change_list.specs.History.{entries_of}
use Rattle.jmap_arguments.specs.Ids.{email_letter, mailbox_letter}
use Rattle.jmap_arguments.specs.declared.method_error.MethodError.{MethodError}
use Rattle.query_conditions.specs.declared.mailbox_condition.MailboxCondition.{MailboxCondition}
use Rattle.query_orders.specs.declared.comparators.EmailComparator.{EmailComparator}
use Rattle.query_orders.specs.declared.comparators.MailboxComparator.{MailboxComparator}
use Rattle.mail_state.specs.History.{MailHistory}
use Rattle.query_arguments.specs.Asked.{QueryChangesMeant, email_query_changes_asked, mailbox_query_changes_asked}
use Rattle.query_arguments.specs.declared.email_condition.EmailCondition.{EmailCondition}
use Rattle.query_core.specs.Lists.{IsEmailList, IsMailboxList, reads_record_alone}
use Rattle.query_changes.specs.Changes.{AnswersQueryChanges, RefusedOr}

abbrev pub EmailChangesMeant : Type 0
EmailChangesMeant = QueryChangesMeant EmailCondition EmailComparator

abbrev pub MailboxChangesMeant : Type 0
MailboxChangesMeant = QueryChangesMeant MailboxCondition MailboxComparator

-- ---- to what is asked

abbrev pub email_calculable : EmailChangesMeant → Bool
email_calculable q = reads_record_alone q.list

-- a query of Mailboxes reads each record alone
abbrev pub mailbox_calculable : MailboxChangesMeant → Bool
mailbox_calculable q = true

abbrev pub AnswersEmails : MailHistory → EmailChangesMeant → Result Data MethodError → Type 0
AnswersEmails h =
    AnswersQueryChanges email_letter h.epoch (entries_of h.emails.touches) email_calculable (λ (q : EmailChangesMeant). IsEmailList h.emails.now q.list)

abbrev pub AnswersMailboxes : MailHistory → MailboxChangesMeant → Result Data MethodError → Type 0
AnswersMailboxes h =
    AnswersQueryChanges mailbox_letter h.epoch (entries_of h.mailboxes.touches) mailbox_calculable
    (λ (q : MailboxChangesMeant). IsMailboxList h.mailboxes.now q.list)

-- ---- to the arguments

abbrev pub RepliesEmailQueryChanges : MailHistory → Data → Result Data MethodError → Type 0
RepliesEmailQueryChanges h d = RefusedOr (AnswersEmails h) (email_query_changes_asked d)

abbrev pub RepliesMailboxQueryChanges : MailHistory → Data → Result Data MethodError → Type 0
RepliesMailboxQueryChanges h d = RefusedOr (AnswersMailboxes h) (mailbox_query_changes_asked d)
