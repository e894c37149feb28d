use Rattle.std.proofs.Common.{ap, ◌∙◌}
use Rattle.std.proofs.lemmas.Bool.{MatchBool-at_true, MatchBool-at_false}
use Rattle.header_dates.specs.Dates.{pieces_of}
use Rattle.header_dates.specs.reading.DateReading.{date_in}
use Rattle.header_dates.proofs.DateLemmas.{form_read, no_form}
use Rattle.header_dates.proofs.PieceLemmas.{start_behind}
use Rattle.header_dates.proofs.moments.as_date.Goals as goal

pub returns-then-not-is_row : goal.returns-then-not-is_row
returns-then-not-is_row c =
    let t = c.as_slice-text.result.now in
    no_form c.args.raw.now t (c.as_slice-text.ensures ∙ c.in_ok-text.ensures) (MatchBool-at_false _ _ c.if-not-is_row.true c.is_row.ensures)

pub returns : goal.returns
returns c =
    let t = c.as_slice-text.result.now in
    let r = c.behind_day_name-rest.result.now in
    form_read c.args.raw.now t c.date_at.result (c.as_slice-text.ensures ∙ c.in_ok-text.ensures) (MatchBool-at_true _ _ c.if-not-is_row.false c.is_row.ensures)
    (c.date_at.ensures ∙ ap date_in (start_behind r ∙ ap pieces_of c.behind_day_name-rest.ensures))
