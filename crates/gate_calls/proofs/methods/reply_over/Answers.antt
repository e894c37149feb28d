use Rattle.std.proofs.Common.{◌≡◌, Ok}
use Rattle.serde_json.specs.View.{view}
use Rattle.jmap_arguments.specs.Echo.{echoed}
use Rattle.mail_state.specs.History.{MailHistory}
use Rattle.mail_state.specs.State.{IsStateOf}
use Rattle.query_changes.specs.Replies.{RepliesEmailQueryChanges, RepliesMailboxQueryChanges}
use Rattle.query_core.specs.Answers.{RepliesEmailQuery, RepliesMailboxQuery}
use Rattle.read_methods.specs.Replies.{mailbox_get_reply, thread_get_reply, RepliesMailboxChanges, RepliesThreadChanges, RepliesEmailChanges}
use Rattle.gate_calls.specs.declared.method.Method.TheVariants.{CoreEcho, MailboxGet, MailboxChanges, MailboxQuery, MailboxQueryChanges, ThreadGet}
use Rattle.gate_calls.specs.declared.method.Method.TheVariants.{ThreadChanges, EmailGet, EmailChanges, EmailQuery, EmailQueryChanges, EmailParse}
use Rattle.gate_calls.proofs.Meaning.{agrees_meets, at_once, just_meets, replies_by}
use Rattle.gate_calls.proofs.methods.reply_over.Goals as goal

pub returns-in-CoreEcho-clause-meant : goal.returns-in-CoreEcho-clause-meant
returns-in-CoreEcho-clause-meant g c =
    let A = g.B.BodySource.answers in
    let L = g.B.BodySource.lacks in
    replies_by A L (λ (h : MailHistory). IsStateOf h c.args.state.now) CoreEcho c.args.method (λ (h : MailHistory). record { mail = Ok h; uploads = c.args.uploads.now })
    (view c.args.arguments)
    _ _ c.echo.result c.in-CoreEcho.is
    (at_once A L {J = λ h. IsStateOf h c.args.state.now} (λ (h : MailHistory) r. r ≡ echoed (view c.args.arguments)) (c.args.bodies.now, c.args.world.now) c.echo.result
    (λ h stands. just_meets (echoed (view c.args.arguments)) c.echo.result c.echo.ensures))

pub returns-in-MailboxGet-clause-meant : goal.returns-in-MailboxGet-clause-meant
returns-in-MailboxGet-clause-meant g c =
    let A = g.B.BodySource.answers in
    let L = g.B.BodySource.lacks in
    replies_by A L (λ (h : MailHistory). IsStateOf h c.args.state.now) MailboxGet c.args.method (λ (h : MailHistory). record { mail = Ok h; uploads = c.args.uploads.now })
    (view c.args.arguments)
    _ _ c.mailbox_get.result c.in-MailboxGet.is
    (at_once A L {J = λ h. IsStateOf h c.args.state.now} (λ (h : MailHistory) r. r ≡ mailbox_get_reply h (view c.args.arguments))
    (c.args.bodies.now, c.args.world.now) c.mailbox_get.result
    (λ h stands. agrees_meets (mailbox_get_reply h (view c.args.arguments)) c.mailbox_get.result (c.mailbox_get.ensures.exact h stands)))

pub returns-in-MailboxChanges-clause-meant : goal.returns-in-MailboxChanges-clause-meant
returns-in-MailboxChanges-clause-meant g c =
    let A = g.B.BodySource.answers in
    let L = g.B.BodySource.lacks in
    replies_by A L (λ (h : MailHistory). IsStateOf h c.args.state.now) MailboxChanges c.args.method (λ (h : MailHistory). record { mail = Ok h; uploads = c.args.uploads.now })
    (view c.args.arguments)
    _ _ c.mailbox_changes.result c.in-MailboxChanges.is
    (at_once A L {J = λ h. IsStateOf h c.args.state.now} (λ (h : MailHistory) r. RepliesMailboxChanges h (view c.args.arguments) r)
    (c.args.bodies.now, c.args.world.now) c.mailbox_changes.result
    (λ h stands. c.mailbox_changes.ensures.exact h stands))

pub returns-in-ThreadGet-clause-meant : goal.returns-in-ThreadGet-clause-meant
returns-in-ThreadGet-clause-meant g c =
    let A = g.B.BodySource.answers in
    let L = g.B.BodySource.lacks in
    replies_by A L (λ (h : MailHistory). IsStateOf h c.args.state.now) ThreadGet c.args.method (λ (h : MailHistory). record { mail = Ok h; uploads = c.args.uploads.now })
    (view c.args.arguments)
    _ _ c.thread_get.result c.in-ThreadGet.is
    (at_once A L {J = λ h. IsStateOf h c.args.state.now} (λ (h : MailHistory) r. r ≡ thread_get_reply h (view c.args.arguments))
    (c.args.bodies.now, c.args.world.now) c.thread_get.result
    (λ h stands. agrees_meets (thread_get_reply h (view c.args.arguments)) c.thread_get.result (c.thread_get.ensures.exact h stands)))

pub returns-in-ThreadChanges-clause-meant : goal.returns-in-ThreadChanges-clause-meant
returns-in-ThreadChanges-clause-meant g c =
    let A = g.B.BodySource.answers in
    let L = g.B.BodySource.lacks in
    replies_by A L (λ (h : MailHistory). IsStateOf h c.args.state.now) ThreadChanges c.args.method (λ (h : MailHistory). record { mail = Ok h; uploads = c.args.uploads.now })
    (view c.args.arguments)
    _ _ c.thread_changes.result c.in-ThreadChanges.is
    (at_once A L {J = λ h. IsStateOf h c.args.state.now} (λ (h : MailHistory) r. RepliesThreadChanges h (view c.args.arguments) r)
    (c.args.bodies.now, c.args.world.now) c.thread_changes.result
    (λ h stands. c.thread_changes.ensures.exact h stands))

pub returns-in-EmailChanges-clause-meant : goal.returns-in-EmailChanges-clause-meant
returns-in-EmailChanges-clause-meant g c =
    let A = g.B.BodySource.answers in
    let L = g.B.BodySource.lacks in
    replies_by A L (λ (h : MailHistory). IsStateOf h c.args.state.now) EmailChanges c.args.method (λ (h : MailHistory). record { mail = Ok h; uploads = c.args.uploads.now })
    (view c.args.arguments)
    _ _ c.email_changes.result c.in-EmailChanges.is
    (at_once A L {J = λ h. IsStateOf h c.args.state.now} (λ (h : MailHistory) r. RepliesEmailChanges h (view c.args.arguments) r)
    (c.args.bodies.now, c.args.world.now) c.email_changes.result
    (λ h stands. c.email_changes.ensures.exact h stands))

pub returns-in-MailboxQuery-clause-meant : goal.returns-in-MailboxQuery-clause-meant
returns-in-MailboxQuery-clause-meant g c =
    let A = g.B.BodySource.answers in
    let L = g.B.BodySource.lacks in
    replies_by A L (λ (h : MailHistory). IsStateOf h c.args.state.now) MailboxQuery c.args.method (λ (h : MailHistory). record { mail = Ok h; uploads = c.args.uploads.now })
    (view c.args.arguments)
    _ _ c.mailbox_query.result c.in-MailboxQuery.is
    (at_once A L {J = λ h. IsStateOf h c.args.state.now} (λ (h : MailHistory) r. RepliesMailboxQuery h (view c.args.arguments) r)
    (c.args.bodies.now, c.args.world.now) c.mailbox_query.result
    (λ h stands. c.mailbox_query.ensures.exact h stands))

pub returns-in-MailboxQueryChanges-clause-meant : goal.returns-in-MailboxQueryChanges-clause-meant
returns-in-MailboxQueryChanges-clause-meant g c =
    let A = g.B.BodySource.answers in
    let L = g.B.BodySource.lacks in
    replies_by A L (λ (h : MailHistory). IsStateOf h c.args.state.now) MailboxQueryChanges c.args.method (λ (h : MailHistory). record { mail = Ok h; uploads = c.args.uploads.now })
    (view c.args.arguments)
    _ _ c.mailbox_query_changes.result c.in-MailboxQueryChanges.is
    (at_once A L {J = λ h. IsStateOf h c.args.state.now} (λ (h : MailHistory) r. RepliesMailboxQueryChanges h (view c.args.arguments) r)
    (c.args.bodies.now, c.args.world.now) c.mailbox_query_changes.result
    (λ h stands. c.mailbox_query_changes.ensures.exact h stands))

pub returns-in-EmailQuery-clause-meant : goal.returns-in-EmailQuery-clause-meant
returns-in-EmailQuery-clause-meant g c =
    let A = g.B.BodySource.answers in
    let L = g.B.BodySource.lacks in
    replies_by A L (λ (h : MailHistory). IsStateOf h c.args.state.now) EmailQuery c.args.method (λ (h : MailHistory). record { mail = Ok h; uploads = c.args.uploads.now })
    (view c.args.arguments)
    _ _ c.email_query.result c.in-EmailQuery.is
    (at_once A L {J = λ h. IsStateOf h c.args.state.now} (λ (h : MailHistory) r. RepliesEmailQuery h (view c.args.arguments) r)
    (c.args.bodies.now, c.args.world.now) c.email_query.result
    (λ h stands. c.email_query.ensures.exact h stands))

pub returns-in-EmailQueryChanges-clause-meant : goal.returns-in-EmailQueryChanges-clause-meant
returns-in-EmailQueryChanges-clause-meant g c =
    let A = g.B.BodySource.answers in
    let L = g.B.BodySource.lacks in
    replies_by A L (λ (h : MailHistory). IsStateOf h c.args.state.now) EmailQueryChanges c.args.method (λ (h : MailHistory). record { mail = Ok h; uploads = c.args.uploads.now })
    (view c.args.arguments)
    _ _ c.email_query_changes.result c.in-EmailQueryChanges.is
    (at_once A L {J = λ h. IsStateOf h c.args.state.now} (λ (h : MailHistory) r. RepliesEmailQueryChanges h (view c.args.arguments) r)
    (c.args.bodies.now, c.args.world.now) c.email_query_changes.result
    (λ h stands. c.email_query_changes.ensures.exact h stands))

pub returns-in-EmailGet-clause-meant : goal.returns-in-EmailGet-clause-meant
returns-in-EmailGet-clause-meant g c =
    replies_by g.B.BodySource.answers g.B.BodySource.lacks (λ (h : MailHistory). IsStateOf h c.args.state.now) EmailGet c.args.method
    (λ (h : MailHistory). record { mail = Ok h; uploads = c.args.uploads.now }) (view c.args.arguments) _ _ c.email_get.result c.in-EmailGet.is c.email_get.ensures.exact

pub returns-in-EmailParse-clause-meant : goal.returns-in-EmailParse-clause-meant
returns-in-EmailParse-clause-meant g c =
    replies_by g.B.BodySource.answers g.B.BodySource.lacks (λ (h : MailHistory). IsStateOf h c.args.state.now) EmailParse c.args.method
    (λ (h : MailHistory). record { mail = Ok h; uploads = c.args.uploads.now }) (view c.args.arguments) _ _ c.email_parse.result c.in-EmailParse.is c.email_parse.ensures.exact
