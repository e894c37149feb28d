use Rattle.std.proofs.lemmas.Result.{err_from_is_err_and}
use Rattle.serde_json.specs.View.{view}
use Rattle.mail_state.specs.State.{IsStateOf}
use Rattle.query_arguments.specs.Asked.{changes_seen, mailbox_query_changes_asked}
use Rattle.query_changes.specs.Replies.{AnswersMailboxes}
use Rattle.query_changes.specs.Splicing.{SplicesMailboxes}
use Rattle.query_changes.proofs.AnswerLemmas.{as_asked, refused, under}
use Rattle.query_changes.proofs.SplicingLemmas.{mailbox_value}
use Rattle.query_changes.proofs.methods.mailbox_query_changes.Goals as goal

pub returns-in_err-asked-clause-exact : goal.returns-in_err-asked-clause-exact
returns-in_err-asked-clause-exact c = λ h is.
    let error = err_from_is_err_and c.from_residual.result c.from_residual.ensures.1 in
    rw (error.1, error.2) (refused (AnswersMailboxes h) (mailbox_query_changes_asked (view c.args.arguments.now)) c.in_err-asked.field-0.0 c.in_err-asked.ensures)

pub returns-clause-exact : goal.returns-clause-exact
returns-clause-exact c = λ h is.
    as_asked (AnswersMailboxes h) (mailbox_query_changes_asked (view c.args.arguments.now)) (changes_seen c.in_ok-asked.asked) c.answer_mailboxes.result c.in_ok-asked.ensures
    (c.answer_mailboxes.ensures.exact h is)

pub returns-clause-splices : goal.returns-clause-splices
returns-clause-splices c =
    let d = view c.args.arguments.now in
    under (λ h. IsStateOf h c.args.state.now) (λ h value. SplicesMailboxes h d (view value)) c.answer_mailboxes.result
    (λ h is. mailbox_value h d is.mailboxes.past c.answer_mailboxes.result (returns-clause-exact c h is))
