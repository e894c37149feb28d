use Rattle.std.proofs.Common.{true, refl, ◌∙◌}
use Rattle.std.proofs.lemmas.Result.{err_from_is_err_and}
use Rattle.serde_json.specs.View.{view}
use Rattle.jmap_arguments.specs.Ids.{mailbox_letter}
use Rattle.mail_maps.specs.Serve.{mailbox_of}
use Rattle.served_types.specs.States.{type_state}
use Rattle.query_arguments.specs.Asked.{mailbox_query_asked, query_seen}
use Rattle.query_core.specs.Lists.{IsMailboxList}
use Rattle.query_core.specs.reading.ListAnswers.{list_answer}
use Rattle.query_core.proofs.AnswerLemmas.{answered, refused, state_is, whole_answer, whole_of}
use Rattle.query_core.proofs.queries.mailbox_query.Goals as goal

pub returns-in_err-list-clause-exact : goal.returns-in_err-list-clause-exact
returns-in_err-list-clause-exact c = λ h stands.
    let is = err_from_is_err_and c.from_residual.result c.from_residual.ensures.1 in
    rw (is.1, is.2) (refused mailbox_letter (type_state h h.mailboxes) (λ q. true) (λ q. IsMailboxList h.mailboxes.now q.list) (mailbox_query_asked (view c.args.arguments.now))
    c.in_err-list.field-0.0 c.in_err-list.ensures)

pub returns-clause-exact : goal.returns-clause-exact
returns-clause-exact c = λ h stands.
    answered mailbox_letter (type_state h h.mailboxes) (λ q. true) (λ q. IsMailboxList h.mailboxes.now q.list) (mailbox_query_asked (view c.args.arguments.now))
    c.answer.result (query_seen c.in_ok-list.field-0) c.in_ok-numbers.numbers.items c.as_slice.result.now c.as_str.result.now true
    (state_is mailbox_of c.args.state.now.rows.mailboxes c.args.state.now.lists.mailbox h h.mailboxes c.args.state.now.epoch c.as_str.result.now stands.epoch stands.mailboxes
    (c.as_str.ensures.value ∙ c.in_ok-text.ensures))
    refl c.as_slice.ensures.value c.answer.ensures c.in_ok-list.ensures (c.in_ok-numbers.ensures.histories h stands)

pub returns-clause-whole : goal.returns-clause-whole
returns-clause-whole c =
    whole_of c.answer.result (list_answer mailbox_letter c.as_str.result.now true c.as_slice.result.now c.in_ok-list.field-0.counts c.in_ok-list.field-0.part) c.answer.ensures
    (whole_answer mailbox_letter c.as_str.result.now true c.as_slice.result.now c.in_ok-list.field-0.counts c.in_ok-list.field-0.part)
