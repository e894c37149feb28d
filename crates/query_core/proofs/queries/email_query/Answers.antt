use Rattle.std.proofs.Common.{true, refl, ◌∙◌}
use Rattle.std.proofs.lemmas.Result.{err_from_is_err_and}
use Rattle.serde_json.specs.View.{view}
use Rattle.jmap_arguments.specs.Ids.{email_letter}
use Rattle.mail_maps.specs.Serve.{email_of}
use Rattle.served_types.specs.States.{type_state}
use Rattle.query_arguments.specs.Asked.{email_query_asked, query_seen}
use Rattle.query_core.specs.Lists as lists
use Rattle.query_core.specs.Lists.{IsEmailList}
use Rattle.query_core.specs.reading.ListAnswers.{list_answer}
use Rattle.query_core.proofs.AnswerLemmas.{answered, refused, state_is, whole_answer, whole_of}
use Rattle.query_core.proofs.queries.email_query.Goals as goal

pub returns-in_err-list-clause-exact : goal.returns-in_err-list-clause-exact
returns-in_err-list-clause-exact c = λ h stands.
    let is = err_from_is_err_and c.from_residual.result c.from_residual.ensures.1 in
    rw (is.1, is.2) (refused email_letter (type_state h h.emails) (λ q. lists.reads_record_alone q.list) (λ q. IsEmailList h.emails.now q.list) (email_query_asked
    (view c.args.arguments.now))
    c.in_err-list.field-0.0 c.in_err-list.ensures)

pub returns-clause-exact : goal.returns-clause-exact
returns-clause-exact c = λ h stands.
    answered email_letter (type_state h h.emails) (λ q. lists.reads_record_alone q.list) (λ q. IsEmailList h.emails.now q.list) (email_query_asked (view c.args.arguments.now))
    c.answer.result (query_seen c.in_ok-list.field-0) c.in_ok-numbers.numbers.items c.as_slice.result.now c.as_str.result.now c.reads_record_alone-calculable.result
    (state_is email_of c.args.state.now.rows.numbered.rows c.args.state.now.lists.email h h.emails c.args.state.now.epoch c.as_str.result.now stands.epoch stands.emails
    (c.as_str.ensures.value ∙ c.in_ok-text.ensures))
    c.reads_record_alone-calculable.ensures c.as_slice.ensures.value c.answer.ensures c.in_ok-list.ensures (c.in_ok-numbers.ensures.histories h stands)

pub returns-clause-whole : goal.returns-clause-whole
returns-clause-whole c =
    whole_of c.answer.result
    (list_answer email_letter c.as_str.result.now c.reads_record_alone-calculable.result c.as_slice.result.now c.in_ok-list.field-0.counts c.in_ok-list.field-0.part)
    c.answer.ensures
    (whole_answer email_letter c.as_str.result.now c.reads_record_alone-calculable.result c.as_slice.result.now c.in_ok-list.field-0.counts c.in_ok-list.field-0.part)
