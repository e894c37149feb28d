-- What a method that reads answers over the mail that is served at its moment, and the bodies that it asks on the way (RFC 8620 sections 3.6.2 and 4, RFC 8621
-- sections 2 to 4).
use Rattle.std.specs.Prelude.{◌≡◌, List, [], Result, Ok, Err}
use Rattle.serde_json.specs.Data.{Data}
use Rattle.email_bodies.specs.Asking.{BodyAsk}
use Rattle.email_get.specs.EmailGet.{RepliesEmailGet, get_emails_refused}
use Rattle.email_get.specs.EmailParse.{RepliesEmailParse, parse_refused}
use Rattle.jmap_arguments.specs.Echo.{echoed}
use Rattle.jmap_arguments.specs.Outcome.{refusal_of}
use Rattle.jmap_arguments.specs.declared.method_error.MethodError.{MethodError}
use Rattle.mail_state.specs.History.{MailHistory}
use Rattle.query_arguments.specs.Asked.{email_query_refused, email_query_changes_refused, mailbox_query_refused, mailbox_query_changes_refused}
use Rattle.query_changes.specs.Replies.{RepliesEmailQueryChanges, RepliesMailboxQueryChanges}
use Rattle.query_core.specs.Answers.{RepliesEmailQuery, RepliesMailboxQuery}
use Rattle.read_methods.specs.Changes.{changes_refused}
use Rattle.read_methods.specs.Mailboxes.{mailboxes_refused}
use Rattle.read_methods.specs.Threads.{threads_refused}
use Rattle.read_methods.specs.Replies.{mailbox_get_reply, thread_get_reply, RepliesMailboxChanges, RepliesThreadChanges, RepliesEmailChanges}
use Rattle.set_arguments.specs.Arguments.{set_asked}
use Rattle.set_arguments.specs.declared.set_method.SetMethod.{SetMethod}
use Rattle.gate_calls.specs.declared.method.Method.{Method}
use Rattle.gate_calls.specs.declared.method.Method.TheVariants.{CoreEcho, MailboxGet, MailboxChanges, MailboxQuery, MailboxQueryChanges, ThreadGet}
use Rattle.gate_calls.specs.declared.method.Method.TheVariants.{ThreadChanges, EmailGet, EmailChanges, EmailQuery, EmailQueryChanges, EmailParse, Set}
use Rattle.gate_calls.specs.Mailings.{Mailing, MailAndUploads}

-- The refusal of a call by its arguments alone, which stands whatever mail there is; else the error.
abbrev pub unless_refused : Result (Unit {0}) MethodError → MethodError → Result Data MethodError
unless_refused (Ok _) e = Err e
unless_refused (Err refusal) e = Err refusal

-- a reply for which no body is asked
abbrev pub AtOnce : (Result Data MethodError → Type 0) → List BodyAsk → Result Data MethodError → Type 0
AtOnce Replies asks result = (asks ≡ []) × Replies result

-- a reply over the mail by the bodies that are asked; where the mail can't be told, the error, unless the arguments are refused
abbrev pub OverMail : Mailing → Result (Unit {0}) MethodError → (MailHistory → List BodyAsk → Result Data MethodError → Type 0) → List BodyAsk
    → Result Data MethodError → Type 0
OverMail (Ok h) refused Replies asks result = Replies h asks result
OverMail (Err e) refused Replies asks result = AtOnce (λ r. r ≡ unless_refused refused e) asks result

-- the refusal of a call that changes mail by its arguments alone
abbrev pub set_refused : SetMethod → Data → Result (Unit {0}) MethodError
set_refused m d = refusal_of (set_asked m d)

-- what a method answers that changes no mail: one that reads, or any where the mail can't be told
abbrev pub RepliesTo : Method → MailAndUploads → Data → List BodyAsk → Result Data MethodError → Type 0
RepliesTo CoreEcho over d = AtOnce (λ r. r ≡ echoed d)
RepliesTo MailboxGet over d = OverMail over.mail (mailboxes_refused d) (λ h. AtOnce (λ r. r ≡ mailbox_get_reply h d))
RepliesTo MailboxChanges over d = OverMail over.mail (changes_refused d) (λ h. AtOnce (λ r. RepliesMailboxChanges h d r))
RepliesTo MailboxQuery over d = OverMail over.mail (mailbox_query_refused d) (λ h. AtOnce (λ r. RepliesMailboxQuery h d r))
RepliesTo MailboxQueryChanges over d = OverMail over.mail (mailbox_query_changes_refused d) (λ h. AtOnce (λ r. RepliesMailboxQueryChanges h d r))
RepliesTo ThreadGet over d = OverMail over.mail (threads_refused d) (λ h. AtOnce (λ r. r ≡ thread_get_reply h d))
RepliesTo ThreadChanges over d = OverMail over.mail (changes_refused d) (λ h. AtOnce (λ r. RepliesThreadChanges h d r))
RepliesTo EmailGet over d = OverMail over.mail (get_emails_refused d) (λ h. RepliesEmailGet h d)
RepliesTo EmailChanges over d = OverMail over.mail (changes_refused d) (λ h. AtOnce (λ r. RepliesEmailChanges h d r))
RepliesTo EmailQuery over d = OverMail over.mail (email_query_refused d) (λ h. AtOnce (λ r. RepliesEmailQuery h d r))
RepliesTo EmailQueryChanges over d = OverMail over.mail (email_query_changes_refused d) (λ h. AtOnce (λ r. RepliesEmailQueryChanges h d r))
RepliesTo EmailParse over d = OverMail over.mail (parse_refused d) (λ h. RepliesEmailParse h over.uploads d)
RepliesTo (Set m) over d = OverMail over.mail (set_refused m d) (λ h asks result. ⊥)
