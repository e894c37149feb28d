use Rattle.std.proofs.Common.{◌≡◌, ◌∙◌, ℕ, ◌≤◌, ℤ, pos, ◌-ℤ◌, arith, ap, min, FitsSigned, w16, w32, to_z}
use Rattle.std.proofs.lemmas.Int.{to_z-of_z, to_z_pos}
use Rattle.jiff_core.proofs.SignedLemmas.{signed_arith}
use Rattle.jiff_core.specs.Calendar.{days_from_civil, days_in_month}
use Rattle.jiff_core.proofs.CalendarLemmas.{days_in_month_bounds}
use Rattle.imap_values.proofs.DateLemmas.{first_day}
use Rattle.imap_values.proofs.date_times.first_of.Goals as goal

day_fits : (day : ℤ) (n : ℕ) → n ≤ 3652424 → day ≡ pos n -ℤ pos 719528 → FitsSigned w32 day
day_fits day n le e = omega (arith, signed_arith, le, e)

first_is : (n : ℕ) → 28 ≤ n → min 1 n ≡ 1
first_is n le = omega arith

pub returns-clause-value : goal.returns-clause-value
returns-clause-value c =
    let date = c.constrain.result in
    let told = c.constrain.ensures in
    let first = first_day c.args.year c.args.month c.requires.year c.requires.first c.requires.last in
    let year : date.year ≡ pos c.args.year = told.year ∙ to_z_pos w16 c.args.year (omega (arith, c.requires.year)) in
    let day : date.day ≡ 1 = told.day ∙ first_is (days_in_month (to_z w16 c.args.year) c.args.month) (days_in_month_bounds (to_z w16 c.args.year) c.args.month).1 in
    let value = c.to_unix_epoch_day.ensures.value ∙ ap (λ y. days_from_civil y date.month date.day) year ∙ ap (λ m. days_from_civil (pos c.args.year) m date.day) told.month
    ∙ ap (days_from_civil (pos c.args.year) c.args.month) day ∙ first.0 in
    to_z-of_z w32 c.to_unix_epoch_day.result (day_fits c.to_unix_epoch_day.result _ first.1 value) ∙ value

pub returns-clause-most : goal.returns-clause-most
returns-clause-most c = (first_day c.args.year c.args.month c.requires.year c.requires.first c.requires.last).1
