use Rattle.std.proofs.lemmas.Result.{err_from_is_err_and}
use Rattle.serde_json.specs.View.{view}
use Rattle.mail_state.specs.State.{IsStateOf}
use Rattle.query_arguments.specs.Asked.{changes_seen, email_query_changes_asked}
use Rattle.query_changes.specs.Replies.{AnswersEmails}
use Rattle.query_changes.specs.Splicing.{SplicesEmails}
use Rattle.query_changes.proofs.AnswerLemmas.{as_asked, refused, under}
use Rattle.query_changes.proofs.SplicingLemmas.{email_value}
use Rattle.query_changes.proofs.methods.email_query_changes.Goals as goal

pub returns-in_err-asked-clause-exact : goal.returns-in_err-asked-clause-exact
returns-in_err-asked-clause-exact c = λ h is.
    let error = err_from_is_err_and c.from_residual.result c.from_residual.ensures.1 in
    rw (error.1, error.2) (refused (AnswersEmails h) (email_query_changes_asked (view c.args.arguments.now)) c.in_err-asked.field-0.0 c.in_err-asked.ensures)

pub returns-clause-exact : goal.returns-clause-exact
returns-clause-exact c = λ h is.
    as_asked (AnswersEmails h) (email_query_changes_asked (view c.args.arguments.now)) (changes_seen c.in_ok-asked.asked) c.answer_emails.result c.in_ok-asked.ensures
    (c.answer_emails.ensures.exact h is)

pub returns-clause-splices : goal.returns-clause-splices
returns-clause-splices c =
    let d = view c.args.arguments.now in
    under (λ h. IsStateOf h c.args.state.now) (λ h value. SplicesEmails h d (view value)) c.answer_emails.result
    (λ h is. email_value h d is.emails.past c.answer_emails.result (returns-clause-exact c h is))
