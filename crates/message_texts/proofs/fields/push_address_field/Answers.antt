use Rattle.std.proofs.lemmas.Result.{on_ok_weaker}
use Rattle.message_texts.specs.AddressTexts.{AreAddressTexts}
use Rattle.message_texts.proofs.FieldLemmas.{value_added}
use Rattle.message_texts.proofs.fields.push_address_field.Goals as goal

pub returns-in_ok-push_address_list-in-Some : goal.returns-in_ok-push_address_list-in-Some
returns-in_ok-push_address_list-in-Some c =
    let begun = c.in_ok-line-in-Some in
    let laid = c.in_ok-push_address_list-in-Some in
    on_ok_weaker c.end_line.result
    (λ ended. value_added AreAddressTexts c.args.name.now c.args.text.now c.begin_field.new.text c.push_address_list.new.text c.end_line.new.text begun.line laid.field-0 c.args.list.now
    c.in-Some.list c.as_slice.result.now c.in-Some.is c.as_slice.ensures begun.ensures.0 begun.ensures.1 laid.ensures ended) c.end_line.ensures
