use Rattle.std.proofs.Common.{◌≡◌, List, ℕ, codes, w64, refl, sym, ap, ◌∙◌, subst}
use Rattle.std.proofs.lemmas.Int.{to_z-of_z}
use Rattle.std.proofs.lemmas.Result.{on_ok_weaker}
use Rattle.header_dates.specs.declared.date.Moment.{Moment}
use Rattle.zoned_moments.specs.declared.moments.ZonedMoment.{ZonedMoment}
use Rattle.zoned_moments.specs.Zoned.{utc_moment}
use Rattle.message_lines.specs.declared.folding.Line.{Line}
use Rattle.message_lines.specs.Folding.{plain_piece}
use Rattle.message_lines.proofs.LineLemmas.{lays_one}
use Rattle.message_texts.specs.DateTexts.{IsDateOf, IsDateText}
use Rattle.message_texts.specs.Fields.{AddsFields, IsWrittenField, date_or_now}
use Rattle.message_texts.proofs.FieldLemmas.{field_added}
use Rattle.message_texts.proofs.fields.push_date_field.Goals as goal
use Rattle.message_texts.proofs.fields.push_date_field.Goals.{in-None, in-Some}

pub returns : goal.returns
returns c =
    let moment : Moment = c.match-date.moment.moment in
    let same : date_or_now c.args.now c.args.date ≡ moment = elim c.match-date.branch [
      | in-None w ↦ ap (date_or_now c.args.now) w.in-None.is ∙ sym (w.in_utc-moment.ensures ∙ ap utc_moment (to_z-of_z w64 c.args.now c.ranges.now)) ∙ ap (λ (z : ZonedMoment). z.moment) (sym w.moment-is)
      | in-Some w ↦ ap (date_or_now c.args.now) w.in-Some.is ∙ ap (λ (z : ZonedMoment). z.moment) (sym w.moment-is)
    ] in
    let value = c.as_slice.result.now in
    let is : IsDateOf moment value = subst (λ (t : List ℕ). IsDateOf moment t) (sym c.as_slice.ensures.value) c.in_ok-value.ensures in
    let laid = c.in_ok-push_piece in
    on_ok_weaker c.end_line.result
    (λ ended. subst (λ (m : Moment). AddsFields (IsWrittenField (IsDateText m) (codes "Date")) c.args.text.now c.end_line.new.text) (sym same)
    (field_added (λ (line : Line). IsDateText moment) (codes "Date") c.args.text.now c.begin_field.new.text c.push_piece.new.text c.end_line.new.text c.in_ok-line.line laid.field-0
    c.in_ok-line.ensures.0 c.in_ok-line.ensures.1
    (lays_one (IsDateText moment) c.in_ok-line.line laid.field-0 c.begin_field.new.text c.push_piece.new.text (plain_piece value) (value, is, refl) laid.ensures.0 laid.ensures.1) ended))
    c.end_line.ensures
