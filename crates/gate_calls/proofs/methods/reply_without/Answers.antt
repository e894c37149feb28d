use Rattle.std.proofs.Common.{◌≡◌, Err}
use Rattle.serde_json.specs.View.{view}
use Rattle.email_get.specs.EmailGet.{get_emails_refused}
use Rattle.email_get.specs.EmailParse.{parse_refused}
use Rattle.jmap_arguments.specs.Echo.{echoed}
use Rattle.gate_calls.specs.declared.method.Method.TheVariants.{CoreEcho, MailboxGet, MailboxChanges, MailboxQuery, MailboxQueryChanges, ThreadGet}
use Rattle.gate_calls.specs.declared.method.Method.TheVariants.{ThreadChanges, EmailGet, EmailChanges, EmailQuery, EmailQueryChanges, EmailParse}
use Rattle.query_arguments.specs.Asked.{email_query_refused, email_query_changes_refused, mailbox_query_refused, mailbox_query_changes_refused}
use Rattle.read_methods.specs.Changes.{changes_refused}
use Rattle.read_methods.specs.Mailboxes.{mailboxes_refused}
use Rattle.read_methods.specs.Threads.{threads_refused}
use Rattle.gate_calls.specs.Methods.{unless_refused}
use Rattle.gate_calls.proofs.Meaning.{just_meets, is_refusal, once, without}
use Rattle.gate_calls.proofs.methods.reply_without.Goals as goal

pub returns-in-CoreEcho-clause-meant : goal.returns-in-CoreEcho-clause-meant
returns-in-CoreEcho-clause-meant c = λ uploads.
    without CoreEcho c.args.method (record { mail = Err c.args.error; uploads = uploads }) (view c.args.arguments) c.echo.result c.in-CoreEcho.is
    (once (λ r. r ≡ echoed (view c.args.arguments)) c.echo.result (just_meets (echoed (view c.args.arguments)) c.echo.result c.echo.ensures))

pub returns-in-MailboxGet-clause-meant : goal.returns-in-MailboxGet-clause-meant
returns-in-MailboxGet-clause-meant c = λ uploads.
    without MailboxGet c.args.method (record { mail = Err c.args.error; uploads = uploads }) (view c.args.arguments) c.refusal_or.result c.in-MailboxGet.is
    (once (λ r. r ≡ unless_refused (mailboxes_refused (view c.args.arguments)) c.args.error) c.refusal_or.result
    (c.refusal_or.ensures.meant (mailboxes_refused (view c.args.arguments)) c.check_mailbox_get.ensures))

pub returns-in-MailboxChanges-clause-meant : goal.returns-in-MailboxChanges-clause-meant
returns-in-MailboxChanges-clause-meant c = λ uploads.
    without MailboxChanges c.args.method (record { mail = Err c.args.error; uploads = uploads })
    (view c.args.arguments) c.refusal_or-in-MailboxChanges.result c.in-MailboxChanges.is
    (once (λ r. r ≡ unless_refused (changes_refused (view c.args.arguments)) c.args.error) c.refusal_or-in-MailboxChanges.result
    (c.refusal_or-in-MailboxChanges.ensures.meant (changes_refused (view c.args.arguments)) (is_refusal _ _ c.check_changes.ensures)))

pub returns-in-ThreadGet-clause-meant : goal.returns-in-ThreadGet-clause-meant
returns-in-ThreadGet-clause-meant c = λ uploads.
    without ThreadGet c.args.method (record { mail = Err c.args.error; uploads = uploads }) (view c.args.arguments) c.refusal_or-in-ThreadGet.result c.in-ThreadGet.is
    (once (λ r. r ≡ unless_refused (threads_refused (view c.args.arguments)) c.args.error) c.refusal_or-in-ThreadGet.result
    (c.refusal_or-in-ThreadGet.ensures.meant (threads_refused (view c.args.arguments)) c.check_thread_get.ensures))

pub returns-in-ThreadChanges-clause-meant : goal.returns-in-ThreadChanges-clause-meant
returns-in-ThreadChanges-clause-meant c = λ uploads.
    without ThreadChanges c.args.method (record { mail = Err c.args.error; uploads = uploads }) (view c.args.arguments) c.refusal_or-in-ThreadChanges.result c.in-ThreadChanges.is
    (once (λ r. r ≡ unless_refused (changes_refused (view c.args.arguments)) c.args.error) c.refusal_or-in-ThreadChanges.result
    (c.refusal_or-in-ThreadChanges.ensures.meant (changes_refused (view c.args.arguments)) (is_refusal _ _ c.check_changes-in-ThreadChanges.ensures)))

pub returns-in-EmailGet-clause-meant : goal.returns-in-EmailGet-clause-meant
returns-in-EmailGet-clause-meant c = λ uploads.
    without EmailGet c.args.method (record { mail = Err c.args.error; uploads = uploads }) (view c.args.arguments) c.refusal_or-in-EmailGet.result c.in-EmailGet.is
    (once (λ r. r ≡ unless_refused (get_emails_refused (view c.args.arguments)) c.args.error) c.refusal_or-in-EmailGet.result
    (c.refusal_or-in-EmailGet.ensures.meant (get_emails_refused (view c.args.arguments)) c.check_email_get.ensures))

pub returns-in-EmailChanges-clause-meant : goal.returns-in-EmailChanges-clause-meant
returns-in-EmailChanges-clause-meant c = λ uploads.
    without EmailChanges c.args.method (record { mail = Err c.args.error; uploads = uploads }) (view c.args.arguments) c.refusal_or-in-EmailChanges.result c.in-EmailChanges.is
    (once (λ r. r ≡ unless_refused (changes_refused (view c.args.arguments)) c.args.error) c.refusal_or-in-EmailChanges.result
    (c.refusal_or-in-EmailChanges.ensures.meant (changes_refused (view c.args.arguments)) (is_refusal _ _ c.check_changes-in-EmailChanges.ensures)))

pub returns-in-MailboxQuery-clause-meant : goal.returns-in-MailboxQuery-clause-meant
returns-in-MailboxQuery-clause-meant c = λ uploads.
    without MailboxQuery c.args.method (record { mail = Err c.args.error; uploads = uploads }) (view c.args.arguments) c.refusal_or-in-MailboxQuery.result c.in-MailboxQuery.is
    (once (λ r. r ≡ unless_refused (mailbox_query_refused (view c.args.arguments)) c.args.error) c.refusal_or-in-MailboxQuery.result
    (c.refusal_or-in-MailboxQuery.ensures.meant (mailbox_query_refused (view c.args.arguments)) c.check_mailbox_query.ensures))

pub returns-in-MailboxQueryChanges-clause-meant : goal.returns-in-MailboxQueryChanges-clause-meant
returns-in-MailboxQueryChanges-clause-meant c = λ uploads.
    without MailboxQueryChanges c.args.method (record { mail = Err c.args.error; uploads = uploads }) (view c.args.arguments) c.refusal_or-in-MailboxQueryChanges.result c.in-MailboxQueryChanges.is
    (once (λ r. r ≡ unless_refused (mailbox_query_changes_refused (view c.args.arguments)) c.args.error) c.refusal_or-in-MailboxQueryChanges.result
    (c.refusal_or-in-MailboxQueryChanges.ensures.meant (mailbox_query_changes_refused (view c.args.arguments)) c.check_mailbox_query_changes.ensures))

pub returns-in-EmailQuery-clause-meant : goal.returns-in-EmailQuery-clause-meant
returns-in-EmailQuery-clause-meant c = λ uploads.
    without EmailQuery c.args.method (record { mail = Err c.args.error; uploads = uploads }) (view c.args.arguments) c.refusal_or-in-EmailQuery.result c.in-EmailQuery.is
    (once (λ r. r ≡ unless_refused (email_query_refused (view c.args.arguments)) c.args.error) c.refusal_or-in-EmailQuery.result
    (c.refusal_or-in-EmailQuery.ensures.meant (email_query_refused (view c.args.arguments)) c.check_email_query.ensures))

pub returns-in-EmailQueryChanges-clause-meant : goal.returns-in-EmailQueryChanges-clause-meant
returns-in-EmailQueryChanges-clause-meant c = λ uploads.
    without EmailQueryChanges c.args.method (record { mail = Err c.args.error; uploads = uploads }) (view c.args.arguments) c.refusal_or-in-EmailQueryChanges.result c.in-EmailQueryChanges.is
    (once (λ r. r ≡ unless_refused (email_query_changes_refused (view c.args.arguments)) c.args.error) c.refusal_or-in-EmailQueryChanges.result
    (c.refusal_or-in-EmailQueryChanges.ensures.meant (email_query_changes_refused (view c.args.arguments)) c.check_email_query_changes.ensures))

pub returns-in-EmailParse-clause-meant : goal.returns-in-EmailParse-clause-meant
returns-in-EmailParse-clause-meant c = λ uploads.
    without EmailParse c.args.method (record { mail = Err c.args.error; uploads = uploads }) (view c.args.arguments) c.refusal_or-in-EmailParse.result c.in-EmailParse.is
    (once (λ r. r ≡ unless_refused (parse_refused (view c.args.arguments)) c.args.error) c.refusal_or-in-EmailParse.result
    (c.refusal_or-in-EmailParse.ensures.meant (parse_refused (view c.args.arguments)) c.check_email_parse.ensures))
