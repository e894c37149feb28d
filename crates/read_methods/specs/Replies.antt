-- What the methods answer over what has become of the mail (RFC 8621 sections 2.1, 2.2, 3.1, 3.2 and 4.3).
use Rattle.std.specs.Prelude.{Result}
use Rattle.serde_json.specs.Data.{Data}
use Rattle.change_list.specs.History.{entries_of}
use Rattle.jmap_arguments.specs.Ids.{mailbox_letter, thread_letter, email_letter}
use Rattle.jmap_arguments.specs.declared.method_error.MethodError.{MethodError}
use Rattle.mail_state.specs.History.{MailHistory}
use Rattle.read_methods.specs.Changes.{AnswersChanges, no_further, updated_properties}
use Rattle.read_methods.specs.Copies.{BringsUpToDate}
use Rattle.read_methods.specs.Mailboxes.{mailboxes_answer}
use Rattle.read_methods.specs.Threads.{threads_answer}
use Rattle.served_types.specs.States.{type_state}

abbrev pub mailbox_get_reply : MailHistory → Data → Result Data MethodError
mailbox_get_reply h d = mailboxes_answer (type_state h h.mailboxes) h.mailboxes.now d

abbrev pub thread_get_reply : MailHistory → Data → Result Data MethodError
thread_get_reply h d = threads_answer (type_state h h.threads) h.threads.now d

abbrev pub RepliesMailboxChanges : MailHistory → Data → Result Data MethodError → Type 0
RepliesMailboxChanges h = AnswersChanges mailbox_letter h.epoch (entries_of h.mailboxes.touches) updated_properties

abbrev pub RepliesThreadChanges : MailHistory → Data → Result Data MethodError → Type 0
RepliesThreadChanges h = AnswersChanges thread_letter h.epoch (entries_of h.threads.touches) no_further

abbrev pub RepliesEmailChanges : MailHistory → Data → Result Data MethodError → Type 0
RepliesEmailChanges h = AnswersChanges email_letter h.epoch (entries_of h.emails.touches) no_further

-- the same for clients' copies
abbrev pub UpdatesMailboxes : MailHistory → Data → Data → Type 0
UpdatesMailboxes h = BringsUpToDate mailbox_letter h.epoch h.mailboxes updated_properties

abbrev pub UpdatesThreads : MailHistory → Data → Data → Type 0
UpdatesThreads h = BringsUpToDate thread_letter h.epoch h.threads no_further

abbrev pub UpdatesEmails : MailHistory → Data → Data → Type 0
UpdatesEmails h = BringsUpToDate email_letter h.epoch h.emails no_further
