use Rattle.std.proofs.Common.{◌≡◌, arith, pos, ◌+ℤ◌}
use Rattle.std.proofs.lemmas.Int.{ints}
use Rattle.jiff_core.specs.Date.{epoch_day}
use Rattle.zoned_moments.proofs.MomentLemmas.{from_year_zero}
use Rattle.zoned_moments.proofs.clocks.date_at.Goals as goal

pub returns-clause-year : goal.returns-clause-year
returns-clause-year c =
    let count : epoch_day c.in-Ok.date +ℤ pos 719528 ≡ pos c.args.days = omega (arith, ints, c.in-Ok.ensures.value, c.requires) in
    from_year_zero c.in-Ok.date c.args.days count
