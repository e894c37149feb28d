use Rattle.std.proofs.Common.{◌≡◌, ◌∙◌, ℕ, ◌≤◌, ℤ, pos, ◌-ℤ◌, arith, FitsSigned, w64}
use Rattle.std.proofs.lemmas.Int.{to_z-of_z}
use Rattle.jiff_core.proofs.SignedLemmas.{signed_arith}
use Rattle.imap_values.proofs.DateLemmas.{is_day_at, year_small}
use Rattle.imap_values.proofs.dates.date_at.Goals as goal

day_fits : (day : ℤ) (n : ℕ) → n ≤ 3652424 → day ≡ pos n -ℤ pos 719528 → FitsSigned w64 day
day_fits day n le e = omega (arith, signed_arith, le, e)

pub returns-clause-year : goal.returns-clause-year
returns-clause-year c =
    let day = c.epoch_day_at-day.result in
    let same = c.epoch_day_at-day.ensures in
    let value = c.in-Ok.ensures.value ∙ to_z-of_z w64 day (day_fits day c.args.days c.requires same) ∙ same in
    (is_day_at c.in-Ok.date c.args.days c.requires value).0

pub returns-clause-month : goal.returns-clause-month
returns-clause-month c =
    let day = c.epoch_day_at-day.result in
    let same = c.epoch_day_at-day.ensures in
    let value = c.in-Ok.ensures.value ∙ to_z-of_z w64 day (day_fits day c.args.days c.requires same) ∙ same in
    (is_day_at c.in-Ok.date c.args.days c.requires value).1

pub returns-clause-day : goal.returns-clause-day
returns-clause-day c =
    let day = c.epoch_day_at-day.result in
    let same = c.epoch_day_at-day.ensures in
    let value = c.in-Ok.ensures.value ∙ to_z-of_z w64 day (day_fits day c.args.days c.requires same) ∙ same in
    (is_day_at c.in-Ok.date c.args.days c.requires value).2

pub returns-clause-small : goal.returns-clause-small
returns-clause-small c = year_small c.args.days c.requires
