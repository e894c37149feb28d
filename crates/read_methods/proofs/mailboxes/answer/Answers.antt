use Rattle.std.proofs.Common.{map, option_map, sym, ap, ◌∙◌}
use Rattle.std.specs.Map.{keys_of}
use Rattle.std.proofs.lemmas.Result.{err_from_is_err_and}
use Rattle.serde_json.specs.View.{view}
use Rattle.jmap_arguments.specs.Ids.{mailbox_letter}
use Rattle.jmap_arguments.specs.State.{state_text}
use Rattle.jmap_arguments.proofs.GetLemmas.{at_numbers}
use Rattle.served_maps.specs.Past.{served}
use Rattle.mail_maps.specs.Serve.{mailbox_of}
use Rattle.read_methods.specs.Mailboxes.{mailbox_data, mailbox_objects, mailboxes_asked}
use Rattle.read_methods.proofs.ObjectLemmas.{keys_of_objects, get_given, get_refused}
use Rattle.read_methods.proofs.mailboxes.answer.Goals as goal

pub returns-in_err-numbers : goal.returns-in_err-numbers
returns-in_err-numbers c =
    let state = c.args.state.now in
    let wanted = c.in_ok-ids.field-0.properties.items in
    let is = err_from_is_err_and c.from_residual-in_err-numbers.result c.from_residual-in_err-numbers.ensures.1 in
    rw (is.1, is.2) (get_refused mailbox_letter (state_text (record { epoch = state.epoch; place = state.lists.mailbox.place }))
    (mailbox_objects (served mailbox_of state.rows.mailboxes)) (mailboxes_asked (view c.args.arguments.now))
    (option_map (λ v. map (λ t. t.now) v.items) c.in_ok-ids.field-0.ids) wanted (keys_of state.rows.mailboxes) c.in_err-numbers.field-0.0
    c.in_ok-ids.ensures (sym (keys_of_objects mailbox_of (mailbox_data wanted) state.rows.mailboxes)) c.in_err-numbers.ensures.asked)

pub returns : goal.returns
returns c =
    let state = c.args.state.now in
    let objects = mailbox_objects (served mailbox_of state.rows.mailboxes) in
    let asked = c.in_ok-numbers.field-0 in
    get_given mailbox_letter (state_text (record { epoch = state.epoch; place = state.lists.mailbox.place })) objects (mailboxes_asked (view c.args.arguments.now))
    (option_map (λ v. map (λ t. t.now) v.items) c.in_ok-ids.field-0.ids) c.in_ok-ids.field-0.properties.items c.as_slice.result.now (keys_of state.rows.mailboxes)
    (record { numbers = asked.numbers.items; missing = map (λ t. t.now) asked.missing.items })
    (map view c.in_ok-list.list.items) c.as_str.result.now (view c.in_ok-get_value.field-0)
    c.in_ok-ids.ensures c.as_slice.ensures.value (sym (keys_of_objects mailbox_of (mailbox_data c.as_slice.result.now) state.rows.mailboxes))
    c.asked_numbers.ensures.ascending c.in_ok-numbers.ensures.asked
    (c.in_ok-list.ensures ∙ ap (at_numbers (objects c.as_slice.result.now)) c.as_slice-2.ensures.value) (c.as_str.ensures.value ∙ c.in_ok-text.ensures) c.in_ok-get_value.ensures
