use Rattle.std.proofs.Common.{◌≡◌, ℕ, List, true, false, inl, inr}
use Rattle.std.proofs.lemmas.Result.{err_from_is_err_and}
use Rattle.mail_state.specs.History.{MailHistory}
use Rattle.query_arguments.specs.Asked.{changes_seen}
use Rattle.query_core.specs.Lists.{IsEmailList}
use Rattle.query_changes.specs.Changes.{ReadsMore}
use Rattle.query_changes.specs.Replies.{EmailChangesMeant, email_calculable}
use Rattle.query_changes.proofs.AnswerLemmas.{names_nothing, told}
use Rattle.query_changes.proofs.methods.answer_emails.Goals as goal

abbrev IsListNow : MailHistory → EmailChangesMeant → List ℕ → Type 0
IsListNow h q list = IsEmailList h.emails.now q.list list

pub returns-then-not-reads_record_alone-clause-exact : goal.returns-then-not-reads_record_alone-clause-exact
returns-then-not-reads_record_alone-clause-exact c = λ h is.
    inr (ReadsMore (let more : email_calculable (changes_seen c.args.asked.now) ≡ false = cc in more))

pub returns-in_err-touched-clause-exact : goal.returns-in_err-touched-clause-exact
returns-in_err-touched-clause-exact c = λ h is.
    let error = err_from_is_err_and c.from_residual.result c.from_residual.ensures.1 in
    let s = c.args.state.now in
    let none = rw (c.epoch.ensures, c.list.ensures, c.as_str-since.ensures) at c.in_err-touched.ensures.none in
    rw (error.1, error.2) (names_nothing 101 s.epoch h.epoch s.lists.email h.emails email_calculable (IsListNow h) (changes_seen c.args.asked.now)
    is.epoch is.emails.kept is.emails.past.history c.in_err-touched.field-0.0 none)

pub returns-in_err-list-clause-exact : goal.returns-in_err-list-clause-exact
returns-in_err-list-clause-exact c = λ h is.
    let error = err_from_is_err_and c.from_residual-in_err-list.result c.from_residual-in_err-list.ensures.1 in
    rw error.1 (inl error.2)

pub returns-clause-exact : goal.returns-clause-exact
returns-clause-exact c = λ h is.
    let s = c.args.state.now in
    let alone : email_calculable (changes_seen c.args.asked.now) ≡ true = cc in
    let found = rw (c.epoch.ensures, c.list.ensures, c.as_str-since.ensures) at c.in_ok-touched.ensures.found in
    let agrees = rw (c.as_str-since.ensures, c.deref.ensures.value) at c.reply.ensures.agrees in
    told 101 s.epoch h.epoch s.lists.email h.emails email_calculable (IsListNow h) (changes_seen c.args.asked.now) is.epoch is.emails.kept is.emails.past.history
    c.in_ok-touched.touched.last c.in_ok-touched.touched.ids c.in_ok-list.list.items found (c.in_ok-list.ensures.histories h is) c.reply.result alone agrees
