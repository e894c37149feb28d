use Rattle.std.proofs.Common.{ℤ, w64, codes, subst}
use Rattle.std.proofs.lemmas.Int.{to_z-of_z}
use Rattle.std.proofs.lemmas.Result.{on_ok_weaker}
use Rattle.message_texts.specs.DateTexts.{IsDateText}
use Rattle.message_texts.specs.Fields.{AddsFields, IsWrittenField, date_or_now}
use Rattle.message_texts.proofs.FieldLemmas.{draft_fields}
use Rattle.message_texts.proofs.fields.push_draft_fields.Goals as goal

pub returns : goal.returns
returns c =
    on_ok_weaker c.push_id_field-2.result
    (λ last. draft_fields c.args.draft.now c.args.now c.args.word c.args.text.now c.push_date_field.new.text c.push_address_field.new.text c.push_address_field-2.new.text
    c.push_address_field-3.new.text c.push_address_field-4.new.text c.push_address_field-5.new.text c.push_address_field-6.new.text c.push_subject_field.new.text
    c.push_message_id.new.text c.push_id_field.new.text c.push_id_field-2.new.text
    (subst (λ (now : ℤ). AddsFields (IsWrittenField (IsDateText (date_or_now now c.args.draft.now.date)) (codes "Date")) c.args.text.now c.push_date_field.new.text)
    (to_z-of_z w64 c.args.now c.ranges.now) c.in_ok-push_date_field.ensures) c.in_ok-push_address_field.ensures c.in_ok-push_address_field-2.ensures
    c.in_ok-push_address_field-3.ensures c.in_ok-push_address_field-4.ensures c.in_ok-push_address_field-5.ensures c.in_ok-push_address_field-6.ensures
    c.in_ok-push_subject_field.ensures c.in_ok-push_message_id.ensures c.in_ok-push_id_field.ensures last) c.push_id_field-2.ensures
