use Rattle.std.proofs.Common.{map, option_map, refl, sym, ap, ◌∙◌}
use Rattle.std.specs.Map.{keys_of}
use Rattle.std.proofs.lemmas.Result.{err_from_is_err_and}
use Rattle.serde_json.specs.View.{view}
use Rattle.jmap_arguments.specs.Ids.{thread_letter}
use Rattle.jmap_arguments.specs.State.{state_text}
use Rattle.jmap_arguments.proofs.GetLemmas.{at_numbers}
use Rattle.served_maps.specs.Past.{served}
use Rattle.mail_maps.specs.Serve.{thread_of}
use Rattle.read_methods.specs.Threads.{thread_data, thread_objects, threads_asked}
use Rattle.read_methods.proofs.ObjectLemmas.{keys_of_objects, get_given, get_refused}
use Rattle.read_methods.proofs.threads.answer.Goals as goal

pub returns-in_err-numbers : goal.returns-in_err-numbers
returns-in_err-numbers c =
    let state = c.args.state.now in
    let wanted = c.in_ok-ids.field-0.emails in
    let is = err_from_is_err_and c.from_residual-in_err-numbers.result c.from_residual-in_err-numbers.ensures.1 in
    rw (is.1, is.2) (get_refused thread_letter (state_text (record { epoch = state.epoch; place = state.lists.thread.place }))
    (thread_objects (served thread_of state.rows.threads)) (threads_asked (view c.args.arguments.now))
    (option_map (λ v. map (λ t. t.now) v.items) c.in_ok-ids.field-0.ids) wanted (keys_of state.rows.threads) c.in_err-numbers.field-0.0
    c.in_ok-ids.ensures (sym (keys_of_objects thread_of (thread_data wanted) state.rows.threads)) c.in_err-numbers.ensures.asked)

pub returns : goal.returns
returns c =
    let state = c.args.state.now in
    let objects = thread_objects (served thread_of state.rows.threads) in
    let asked = c.in_ok-numbers.field-0 in
    get_given thread_letter (state_text (record { epoch = state.epoch; place = state.lists.thread.place })) objects (threads_asked (view c.args.arguments.now))
    (option_map (λ v. map (λ t. t.now) v.items) c.in_ok-ids.field-0.ids) c.in_ok-ids.field-0.emails c.in_ok-ids.field-0.emails (keys_of state.rows.threads)
    (record { numbers = asked.numbers.items; missing = map (λ t. t.now) asked.missing.items })
    (map view c.in_ok-list.list.items) c.as_str.result.now (view c.in_ok-get_value.field-0)
    c.in_ok-ids.ensures refl (sym (keys_of_objects thread_of (thread_data c.in_ok-ids.field-0.emails) state.rows.threads))
    c.asked_numbers.ensures.ascending c.in_ok-numbers.ensures.asked
    (c.in_ok-list.ensures ∙ ap (at_numbers (objects c.in_ok-ids.field-0.emails)) c.as_slice.ensures.value) (c.as_str.ensures.value ∙ c.in_ok-text.ensures) c.in_ok-get_value.ensures
